use Rattle.entry_codec.proofs.Lines.{ends_first}
use Rattle.entry_codec.proofs.laws.no_prefix.Goals as goal

pub returns : goal.returns
returns c = ends_first
