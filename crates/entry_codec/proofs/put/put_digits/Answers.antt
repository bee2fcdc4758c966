use Rattle.std.proofs.Common.{arith}
use Rattle.entry_codec.proofs.Digits.{last_eight, length_by_eight, in_parts}
use Rattle.entry_codec.proofs.put.put_digits.Goals as goal

pub put_up_to_twelve-at-requires-clause-room : goal.put_up_to_twelve-at-requires-clause-room
put_up_to_twelve-at-requires-clause-room c
    = omega (
      arith,
      c.requires,
      length_by_eight c.args.number c.if-number-lt-EIGHT_DIGITS.false
          (omega (arith, c.ranges.number.fits)),
    )

pub put_eight-requires-clause-room : goal.put_eight-requires-clause-room
put_eight-requires-clause-room c
    = omega (
      arith,
      c.requires,
      length_by_eight c.args.number c.if-number-lt-EIGHT_DIGITS.false
          (omega (arith, c.ranges.number.fits)),
      c.put_up_to_twelve-at.ensures.end,
      c.put_up_to_twelve-at.auto.buffer,
    )

pub returns-clause-end : goal.returns-clause-end
returns-clause-end c = omega (
  arith,
  length_by_eight c.args.number c.if-number-lt-EIGHT_DIGITS.false (omega (arith, c.ranges.number.fits)),
  c.put_up_to_twelve-at.ensures.end,
  c.put_eight.ensures.end,
)

pub returns-clause-text : goal.returns-clause-text
returns-clause-text c = in_parts _ _ _ _ _ _ c.put_up_to_twelve-at.ensures.text c.put_eight.ensures.text
    (last_eight c.args.number c.if-number-lt-EIGHT_DIGITS.false (omega (arith, c.ranges.number.fits)))
