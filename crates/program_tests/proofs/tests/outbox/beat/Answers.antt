use Rattle.std.proofs.Common.{ℕ, Vec, Result, Ok, Err, IfOk}
use Rattle.rights_types.specs.Messages.{BeatValue}
use Rattle.rights_types.specs.Messages.MessageValue.{ABeat}
use Rattle.entry_codec.specs.Pieces.{IsLine}
use Rattle.entry_codec.specs.Spelling.{Spells}
use Rattle.entry_codec.proofs.Lines.{is_line}
use Rattle.program_tests.proofs.tests.outbox.beat.Goals as goal

-- what spells a beat is a line
spelled : {X E : Type 0} (r : Result (Vec ℕ X) E) (b : BeatValue) → IfOk r (λ text. Spells (ABeat b) text.items)
    → IfOk r (λ line. IsLine line.items)
spelled (Ok line) b h = is_line (ABeat b) line.items h
spelled (Err e) b h = tt

pub returns : goal.returns
returns g c = spelled c.write_line.result c.in_ok-beat.beat c.write_line.ensures
