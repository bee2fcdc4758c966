use Rattle.world_core.proofs.RefinementLaws as lemmas
use Rattle.world_core.proofs.laws.applied_for_good.Goals as goal

pub returns : goal.returns
returns c = lemmas.applied_for_good
