use Rattle.rights_protocol.proofs.Worked as lemmas
use Rattle.rights_protocol.proofs.examples.full_is_turned_away.Goals as goal

pub returns : goal.returns
returns c = lemmas.turned_away
