use Rattle.rights_protocol.proofs.Journals as lemmas
use Rattle.rights_protocol.proofs.crashes.any_crash.Goals as goal

pub returns : goal.returns
returns c = lemmas.any_crash
