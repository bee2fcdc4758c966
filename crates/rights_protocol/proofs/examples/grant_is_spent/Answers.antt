use Rattle.rights_protocol.proofs.Worked as lemmas
use Rattle.rights_protocol.proofs.examples.grant_is_spent.Goals as goal

pub returns : goal.returns
returns c = lemmas.is_granted
