use Rattle.world_core.proofs.RefinementLaws as lemmas
use Rattle.world_core.proofs.laws.every_run_operates.Goals as goal

pub returns : goal.returns
returns c = lemmas.every_run_operates
