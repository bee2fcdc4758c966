use Rattle.rights_protocol.proofs.Worked as lemmas
use Rattle.rights_protocol.proofs.examples.heir_inherits.Goals as goal

pub returns : goal.returns
returns c = lemmas.inherits
