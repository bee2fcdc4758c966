use Rattle.rights_protocol.proofs.Worked as lemmas
use Rattle.rights_protocol.proofs.examples.gift_is_taken_back.Goals as goal

pub returns : goal.returns
returns c = lemmas.takes_back
