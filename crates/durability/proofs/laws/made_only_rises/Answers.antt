use Rattle.durability.proofs.CountLaws as lemmas
use Rattle.durability.proofs.laws.made_only_rises.Goals as goal

pub returns : goal.returns
returns c = lemmas.made_only_rises
