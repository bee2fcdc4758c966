use Rattle.site_core.proofs.RestoredLaws as lemmas
use Rattle.site_core.proofs.restarts.alike_may_replay.Goals as goal

pub returns : goal.returns
returns c = lemmas.alike_may_replay
