use Rattle.std.proofs.Common.{arith}
use Rattle.std.proofs.lemmas.Fmt.{length-decimal-le}
use Rattle.line_streams.proofs.put.put_field.Goals as goal

pub put_decimal-requires : goal.put_decimal-requires
put_decimal-requires g c =
    omega (
      arith,
      c.requires,
      c.put_word-at.ensures.end,
      length-decimal-le 20 c.args.number (omega arith) (omega (arith, c.ranges.number.fits))
          (omega (arith, c.ranges.number.fits)),
    )

pub returns-clause-short : goal.returns-clause-short
returns-clause-short g c = omega (
  arith,
  c.put_word-at.ensures.end,
  c.put_decimal.ensures.end,
  length-decimal-le 20 c.args.number (omega arith) (omega (arith, c.ranges.number.fits))
      (omega (arith, c.ranges.number.fits)),
)
