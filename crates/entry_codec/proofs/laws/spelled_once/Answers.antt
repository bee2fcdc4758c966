use Rattle.entry_codec.proofs.Lines.{is_once}
use Rattle.entry_codec.proofs.laws.spelled_once.Goals as goal

pub returns-clause-message : goal.returns-clause-message
returns-clause-message c = is_once
