use Rattle.site_node.proofs.RestartLaws.{starts_remember}
use Rattle.site_node.proofs.laws.starts_remember.Goals as goal

pub returns : goal.returns
returns c = starts_remember
