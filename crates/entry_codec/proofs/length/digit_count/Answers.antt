use Rattle.std.proofs.Common.{arith}
use Rattle.entry_codec.proofs.Digits.{length_tenths}
use Rattle.entry_codec.proofs.length.digit_count.Goals as goal

pub returns-then-number-ge-TEN_DIGITS-clause-value : goal.returns-then-number-ge-TEN_DIGITS-clause-value
returns-then-number-ge-TEN_DIGITS-clause-value c
    = omega (
      arith,
      c.short_count.ensures.value,
      length_tenths 10 c.args.number c.if-number-ge-TEN_DIGITS.true
          (omega (arith, c.ranges.number.fits)),
    )
