use Rattle.apply_lanes.proofs.RestartLaws as lemmas
use Rattle.apply_lanes.proofs.laws.calls_are_recorded.Goals as goal

pub returns : goal.returns
returns c = lemmas.calls_are_recorded
