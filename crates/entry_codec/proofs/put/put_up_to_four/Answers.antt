use Rattle.std.proofs.Common.{arith}
use Rattle.entry_codec.proofs.Digits.{last_two, length_by_two, in_parts}
use Rattle.entry_codec.proofs.put.put_up_to_four.Goals as goal

pub put_up_to_two-at-requires-clause-room : goal.put_up_to_two-at-requires-clause-room
put_up_to_two-at-requires-clause-room c
    = omega (
      arith,
      c.requires.room,
      length_by_two c.args.number c.if-number-lt100.false (omega (arith, c.requires.small)),
    )

pub put_two-requires-clause-room : goal.put_two-requires-clause-room
put_two-requires-clause-room c
    = omega (
      arith,
      c.requires.room,
      length_by_two c.args.number c.if-number-lt100.false (omega (arith, c.requires.small)),
      c.put_up_to_two-at.ensures.end,
      c.put_up_to_two-at.auto.buffer,
    )

pub returns-clause-end : goal.returns-clause-end
returns-clause-end c = omega (
  arith,
  length_by_two c.args.number c.if-number-lt100.false (omega (arith, c.requires.small)),
  c.put_up_to_two-at.ensures.end,
  c.put_two.ensures.end,
)

pub returns-clause-text : goal.returns-clause-text
returns-clause-text c = in_parts _ _ _ _ _ _ c.put_up_to_two-at.ensures.text c.put_two.ensures.text
    (last_two c.args.number c.if-number-lt100.false (omega (arith, c.requires.small)))
