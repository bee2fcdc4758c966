use Rattle.site_core.proofs.RestoredLaws as lemmas
use Rattle.site_core.proofs.restarts.no_record_is_refused.Goals as goal

pub returns : goal.returns
returns c = lemmas.no_record_is_refused
