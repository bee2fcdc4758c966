use Rattle.rights_protocol.proofs.Worked as lemmas
use Rattle.rights_protocol.proofs.examples.gap_fills.Goals as goal

pub returns : goal.returns
returns c = lemmas.gap_fills
