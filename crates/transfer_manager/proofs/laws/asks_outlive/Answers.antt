use Rattle.transfer_manager.proofs.OutlivingLaws as lemmas
use Rattle.transfer_manager.proofs.laws.asks_outlive.Goals as goal

pub returns : goal.returns
returns c = lemmas.asks_outlive
