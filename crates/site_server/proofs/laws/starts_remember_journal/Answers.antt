use Rattle.site_server.proofs.StartKeyLaws.{starts_remember_journal}
use Rattle.site_server.proofs.laws.starts_remember_journal.Goals as goal

pub returns : goal.returns
returns c = starts_remember_journal
