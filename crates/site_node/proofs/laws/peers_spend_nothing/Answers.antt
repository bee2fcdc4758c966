use Rattle.site_node.proofs.TellingLaws as lemmas
use Rattle.site_node.proofs.laws.peers_spend_nothing.Goals as goal

pub returns : goal.returns
returns c = lemmas.peers_spend_nothing
