use Rattle.site_core.proofs.RefusalLaws as lemmas
use Rattle.site_core.proofs.restarts.refused_is_not_permitted.Goals as goal

pub returns : goal.returns
returns c = lemmas.refused_is_not_permitted
