use Rattle.entry_codec.proofs.Lines.{reading_is}
use Rattle.entry_codec.proofs.laws.read_is_spelled.Goals as goal

pub returns : goal.returns
returns c = λ m text. reading_is text m
