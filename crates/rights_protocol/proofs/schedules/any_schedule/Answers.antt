use Rattle.rights_protocol.proofs.Interleavings as lemmas
use Rattle.rights_protocol.proofs.schedules.any_schedule.Goals as goal

pub returns : goal.returns
returns c = lemmas.any_schedule
