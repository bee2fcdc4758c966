use Rattle.entry_codec.proofs.Lines.{reading_again}
use Rattle.entry_codec.proofs.laws.reads_back.Goals as goal

pub returns : goal.returns
returns c = reading_again
