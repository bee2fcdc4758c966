use Rattle.rights_protocol.proofs.Steps as lemmas
use Rattle.rights_protocol.proofs.laws.step_keeps.Goals as goal

pub returns : goal.returns
returns c = lemmas.step_keeps
