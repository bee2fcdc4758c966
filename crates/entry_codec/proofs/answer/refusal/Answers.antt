use Rattle.std.proofs.Common.{List, arith}
use Rattle.rights_types.specs.Entries.{EntryValue}
use Rattle.entry_codec.specs.Parts.{parts_left}
use Rattle.entry_codec.proofs.AnswerMessages.{counted_few, counted_many, entry_fails, answer_entries_no_want}
use Rattle.entry_codec.proofs.Lines.{gives_fault}
use Rattle.entry_codec.proofs.answer.refusal.Goals as goal

pub returns-then-count-gt-MAX_ANSWER : goal.returns-then-count-gt-MAX_ANSWER
returns-then-count-gt-MAX_ANSWER c =
    let read = c.in-Ok.ensures in
    counted_many c.args.origin (parts_left c.args.parts) read.0 read.1
    (omega (arith, read.2, c.if-count-gt-MAX_ANSWER.true))

pub returns-else-count-gt-MAX_ANSWER : goal.returns-else-count-gt-MAX_ANSWER
returns-else-count-gt-MAX_ANSWER c =
    let read = c.in-Ok.ensures in (
      read.0,
      counted_few c.args.origin (parts_left c.args.parts) read.0 read.1
          (omega (arith, read.2, c.if-count-gt-MAX_ANSWER.false)),
    )

pub returns-in-Err : goal.returns-in-Err
returns-in-Err c =
    gives_fault (λ (es : List EntryValue). es) c.in-Err.fault _
    (entry_fails c.args.origin (parts_left c.args.parts) c.in-Err.fault c.in-Err.ensures)
    (answer_entries_no_want c.args.origin (parts_left c.args.parts))
