use Rattle.std.proofs.Common.{length, ap, arith}
use Rattle.std.proofs.lemmas.Fmt.{decimal_digit}
use Rattle.entry_codec.proofs.Digits.{decimal_two}
use Rattle.entry_codec.proofs.put.put_up_to_two.Goals as goal

pub put_byte-requires : goal.put_byte-requires
put_byte-requires c = omega (arith, c.requires.room, ap length (decimal_digit c.args.number c.if-number-lt10.true))

pub returns-then-number-lt10-clause-end : goal.returns-then-number-lt10-clause-end
returns-then-number-lt10-clause-end c
    = omega (arith, c.put_byte.ensures.end, ap length (decimal_digit c.args.number c.if-number-lt10.true))

pub returns-then-number-lt10-clause-text : goal.returns-then-number-lt10-clause-text
returns-then-number-lt10-clause-text c = rw (decimal_digit c.args.number c.if-number-lt10.true) c.put_byte.ensures.text

pub put_two-requires-clause-room : goal.put_two-requires-clause-room
put_two-requires-clause-room c
    = omega (arith, c.requires.room, ap length (decimal_two c.args.number c.if-number-lt10.false c.requires.small))

pub returns-clause-end : goal.returns-clause-end
returns-clause-end c = omega (
  arith,
  c.put_two.ensures.end,
  ap length (decimal_two c.args.number c.if-number-lt10.false c.requires.small),
)

pub returns-clause-text : goal.returns-clause-text
returns-clause-text c = rw (decimal_two c.args.number c.if-number-lt10.false c.requires.small) c.put_two.ensures.text
