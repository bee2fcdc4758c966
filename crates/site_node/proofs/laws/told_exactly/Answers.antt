use Rattle.site_node.proofs.TellingLaws as lemmas
use Rattle.site_node.proofs.laws.told_exactly.Goals as goal

pub returns : goal.returns
returns c = lemmas.told_exactly
