use Rattle.apply_lanes.proofs.RestartLaws as lemmas
use Rattle.apply_lanes.proofs.laws.journal_restores_kept.Goals as goal

pub returns : goal.returns
returns c = lemmas.journal_restores_kept
