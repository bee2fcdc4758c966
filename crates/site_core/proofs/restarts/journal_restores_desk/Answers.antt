use Rattle.site_core.proofs.RestoredLaws as lemmas
use Rattle.site_core.proofs.restarts.journal_restores_desk.Goals as goal

pub returns : goal.returns
returns c = lemmas.journal_restores_desk
