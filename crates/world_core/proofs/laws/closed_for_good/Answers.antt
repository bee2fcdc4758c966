use Rattle.world_core.proofs.RefinementLaws as lemmas
use Rattle.world_core.proofs.laws.closed_for_good.Goals as goal

pub returns : goal.returns
returns c = lemmas.closed_for_good
