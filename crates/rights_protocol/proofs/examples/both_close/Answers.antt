use Rattle.rights_protocol.proofs.Worked as lemmas
use Rattle.rights_protocol.proofs.examples.both_close.Goals as goal

pub returns : goal.returns
returns c = lemmas.both_close
