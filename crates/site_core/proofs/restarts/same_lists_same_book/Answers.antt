use Rattle.site_core.proofs.ReplayLaws as lemmas
use Rattle.site_core.proofs.restarts.same_lists_same_book.Goals as goal

pub returns : goal.returns
returns c = lemmas.same_lists_same_book
