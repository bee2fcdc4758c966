use Rattle.desk_turns.proofs.JournalLineLaws.{handed_reads_back}
use Rattle.desk_turns.proofs.laws.handed_reads_back.Goals as goal

pub returns : goal.returns
returns c = handed_reads_back
