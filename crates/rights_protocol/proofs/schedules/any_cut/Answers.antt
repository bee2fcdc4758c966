use Rattle.rights_protocol.proofs.Cuts as lemmas
use Rattle.rights_protocol.proofs.schedules.any_cut.Goals as goal

pub returns : goal.returns
returns c = lemmas.any_cut
