use Rattle.journal_check.proofs.CheckLaws as lemmas
use Rattle.journal_check.proofs.laws.reads_records.Goals as goal

pub returns : goal.returns
returns c = lemmas.reads_records
