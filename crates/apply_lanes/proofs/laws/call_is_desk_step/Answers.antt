use Rattle.apply_lanes.proofs.JournalLaws as lemmas
use Rattle.apply_lanes.proofs.laws.call_is_desk_step.Goals as goal

pub returns : goal.returns
returns c = lemmas.call_is_desk_step
