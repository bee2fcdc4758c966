use Rattle.apply_lanes.proofs.ScheduleLaws as lemmas
use Rattle.apply_lanes.proofs.laws.every_schedule.Goals as goal

pub returns : goal.returns
returns c = lemmas.every_schedule
