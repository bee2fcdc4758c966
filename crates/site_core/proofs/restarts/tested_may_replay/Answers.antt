use Rattle.site_core.proofs.RestoredLaws as lemmas
use Rattle.site_core.proofs.restarts.tested_may_replay.Goals as goal

pub returns : goal.returns
returns c = lemmas.tested_may_replay
