use Rattle.apply_lanes.proofs.CrashLaws as lemmas
use Rattle.apply_lanes.proofs.laws.every_crash_under_locks.Goals as goal

pub returns : goal.returns
returns c = lemmas.every_crash_under_locks
