use Rattle.apply_lanes.proofs.RestartLaws as lemmas
use Rattle.apply_lanes.proofs.laws.starts_replay.Goals as goal

pub returns : goal.returns
returns c = lemmas.starts_replay
