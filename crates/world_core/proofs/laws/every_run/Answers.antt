use Rattle.world_core.proofs.WorldLaws as lemmas
use Rattle.world_core.proofs.laws.every_run.Goals as goal

pub returns : goal.returns
returns c = lemmas.every_run
