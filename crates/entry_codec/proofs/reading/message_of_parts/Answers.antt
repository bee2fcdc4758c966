use Rattle.std.proofs.Common.{length, ap, sym, subst, ◌∙◌, arith}
use Rattle.rights_types.specs.Values.{value_of}
use Rattle.entry_codec.specs.Parts.{Gives}
use Rattle.entry_codec.specs.Reading.{message_of, WantsRoom}
use Rattle.entry_codec.proofs.Cuts.{few_parts}
use Rattle.entry_codec.proofs.ShortMessages.{short_no_want}
use Rattle.entry_codec.proofs.AnswerMessages.{answer_has}
use Rattle.entry_codec.proofs.Lines.{letter_first, message_push, message_answer, message_short, push_has, reads_gives}
use Rattle.entry_codec.proofs.Lines.{gives_wants, reads_wants}
use Rattle.entry_codec.proofs.reading.message_of_parts.Goals as goal

pub push_in-requires : goal.push_in-requires
push_in-requires g c =
    omega (
      arith,
      ap length c.split_first.ensures.parts,
      few_parts 32 c.split_far.result.0.now,
      c.split_far.ensures.within,
      c.requires,
    )

pub returns-else-is_letter-2-clause-value : goal.returns-else-is_letter-2-clause-value
returns-else-is_letter-2-clause-value g c =
    let parts = letter_first c.args.text.now _ _ c.split_far.result.1 c.split_first.result.1 c.split_far.ensures.parts
    c.split_first.ensures.parts in
    let same = ap message_of parts ∙ message_short _ _ _ (sym c.if-is_letter.ensures) (sym c.if-is_letter-2.ensures) in
    subst (Gives (value_of {A = g.row.A.Denot}) c.short_in.result) (sym same)
    (reads_gives (value_of {A = g.row.A.Denot}) c.short_in.result _ c.short_in.ensures (short_no_want _ _ _))

pub returns-then-is_letter-clause-memory : goal.returns-then-is_letter-clause-memory
returns-then-is_letter-clause-memory g c =
    let parts = letter_first c.args.text.now _ _ c.split_far.result.1 c.split_first.result.1 c.split_far.ensures.parts
    c.split_first.ensures.parts in
    let same = ap message_of parts ∙ message_push _ _ _ (sym c.if-is_letter.ensures) in
    subst (WantsRoom c.push_in.result) (sym same)
    (gives_wants (value_of {A = g.row.A.Denot}) c.push_in.result _ c.push_in.ensures (push_has _ _))

pub returns-then-is_letter-2-clause-memory : goal.returns-then-is_letter-2-clause-memory
returns-then-is_letter-2-clause-memory g c =
    let parts = letter_first c.args.text.now _ _ c.split_far.result.1 c.split_first.result.1 c.split_far.ensures.parts
    c.split_first.ensures.parts in
    let same = ap message_of parts ∙ message_answer _ _ _ (sym c.if-is_letter.ensures) (sym c.if-is_letter-2.ensures) in
    subst (WantsRoom c.answer_message_in.result) (sym same)
    (gives_wants (value_of {A = g.row.A.Denot}) c.answer_message_in.result _ c.answer_message_in.ensures
    (answer_has _ _))

pub returns-else-is_letter-2-clause-memory : goal.returns-else-is_letter-2-clause-memory
returns-else-is_letter-2-clause-memory g c =
    let parts = letter_first c.args.text.now _ _ c.split_far.result.1 c.split_first.result.1 c.split_far.ensures.parts
    c.split_first.ensures.parts in
    let same = ap message_of parts ∙ message_short _ _ _ (sym c.if-is_letter.ensures) (sym c.if-is_letter-2.ensures) in
    subst (WantsRoom c.short_in.result) (sym same)
    (reads_wants (value_of {A = g.row.A.Denot}) c.short_in.result _ c.short_in.ensures (short_no_want _ _ _))
