use Rattle.entry_codec.proofs.Lines.{is_line}
use Rattle.entry_codec.proofs.laws.ends_once.Goals as goal

pub returns : goal.returns
returns c = is_line
