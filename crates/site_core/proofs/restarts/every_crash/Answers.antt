use Rattle.site_core.proofs.JournalLaws as lemmas
use Rattle.site_core.proofs.restarts.every_crash.Goals as goal

pub returns : goal.returns
returns c = lemmas.every_crash
