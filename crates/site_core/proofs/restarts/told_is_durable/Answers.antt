use Rattle.site_core.proofs.JournalLaws as lemmas
use Rattle.site_core.proofs.restarts.told_is_durable.Goals as goal

pub returns : goal.returns
returns c = lemmas.told_is_durable
