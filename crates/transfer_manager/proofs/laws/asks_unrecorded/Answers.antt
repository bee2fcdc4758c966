use Rattle.transfer_manager.proofs.OutlivingLaws as lemmas
use Rattle.transfer_manager.proofs.laws.asks_unrecorded.Goals as goal

pub returns : goal.returns
returns c = lemmas.unrecorded
