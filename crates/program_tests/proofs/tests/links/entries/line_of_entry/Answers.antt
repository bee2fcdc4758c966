use Rattle.std.proofs.Common.{ℕ, Vec, Result, Ok, Err, IfOk}
use Rattle.rights_types.specs.Entries.{EntryValue}
use Rattle.rights_types.specs.Messages.MessageValue.{AnEntry}
use Rattle.entry_codec.specs.Pieces.{IsLine}
use Rattle.entry_codec.specs.Spelling.{Spells}
use Rattle.entry_codec.proofs.Lines.{is_line}
use Rattle.program_tests.proofs.tests.links.entries.line_of_entry.Goals as goal

-- what spells an entry is a line
spelled : {X E : Type 0} (r : Result (Vec ℕ X) E) (e : EntryValue) → IfOk r (λ text. Spells (AnEntry e) text.items)
    → IfOk r (λ line. IsLine line.items)
spelled (Ok line) e h = is_line (AnEntry e) line.items h
spelled (Err fault) e h = tt

pub returns : goal.returns
returns c = spelled c.write_line.result c.args.entry c.write_line.ensures
