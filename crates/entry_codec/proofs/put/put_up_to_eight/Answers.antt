use Rattle.std.proofs.Common.{arith}
use Rattle.entry_codec.proofs.Digits.{last_four, length_by_four, in_parts}
use Rattle.entry_codec.proofs.put.put_up_to_eight.Goals as goal

pub put_up_to_four-at-requires-clause-room : goal.put_up_to_four-at-requires-clause-room
put_up_to_four-at-requires-clause-room c
    = omega (
      arith,
      c.requires.room,
      length_by_four c.args.number c.if-number-lt-FOUR_DIGITS.false
          (omega (arith, c.requires.small)),
    )

pub put_four-requires-clause-room : goal.put_four-requires-clause-room
put_four-requires-clause-room c
    = omega (
      arith,
      c.requires.room,
      length_by_four c.args.number c.if-number-lt-FOUR_DIGITS.false
          (omega (arith, c.requires.small)),
      c.put_up_to_four-at.ensures.end,
      c.put_up_to_four-at.auto.buffer,
    )

pub returns-clause-end : goal.returns-clause-end
returns-clause-end c = omega (
  arith,
  length_by_four c.args.number c.if-number-lt-FOUR_DIGITS.false (omega (arith, c.requires.small)),
  c.put_up_to_four-at.ensures.end,
  c.put_four.ensures.end,
)

pub returns-clause-text : goal.returns-clause-text
returns-clause-text c = in_parts _ _ _ _ _ _ c.put_up_to_four-at.ensures.text c.put_four.ensures.text
    (last_four c.args.number c.if-number-lt-FOUR_DIGITS.false (omega (arith, c.requires.small)))
