use Rattle.world_core.proofs.RefinementLaws as lemmas
use Rattle.world_core.proofs.laws.later_refines.Goals as goal

pub returns : goal.returns
returns c = lemmas.later_refines
