use Rattle.rights_protocol.proofs.Cuts as lemmas
use Rattle.rights_protocol.proofs.schedules.local_run_kept.Goals as goal

pub returns : goal.returns
returns c = lemmas.local_run_kept
