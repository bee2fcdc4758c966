use Rattle.site_core.proofs.JournalLaws as lemmas
use Rattle.site_core.proofs.restarts.journal_makes_desk.Goals as goal

pub returns : goal.returns
returns c = lemmas.journal_makes_desk
