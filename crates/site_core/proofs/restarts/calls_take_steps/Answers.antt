use Rattle.site_core.proofs.RecordedLaws as lemmas
use Rattle.site_core.proofs.restarts.calls_take_steps.Goals as goal

pub returns : goal.returns
returns c = lemmas.calls_take_steps
