use Rattle.site_node.proofs.ConfirmedLaws as lemmas
use Rattle.site_node.proofs.laws.confirmed_is_counted.Goals as goal

pub returns : goal.returns
returns c = lemmas.turns_count
