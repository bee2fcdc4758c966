use Rattle.std.proofs.Common.{◌≤◌, refl, arith}
use Rattle.std.specs.Prelude.{decimal}
use Rattle.entry_codec.specs.Parts.{split_at, left}
use Rattle.entry_codec.proofs.Numbers.{found_within, found_outside}
use Rattle.entry_codec.proofs.Digits.{first_some, first_none}
use Rattle.entry_codec.proofs.parts.first_digit.Goals.{then-value-low-via-then-value-low}
use Rattle.entry_codec.proofs.parts.first_digit.Goals.{then-value-low-via-else-value-low+then-high-value}
use Rattle.entry_codec.proofs.parts.first_digit.Goals as goal

pub returns-then-value-low-clause-value : goal.returns-then-value-low-clause-value
returns-then-value-low-clause-value c =
    let found = c.in_ok-value in
    let out : c.args.low ≤ found.value → found.value ≤ c.args.high → ⊥ = λ above below. elim c.then-value-low.branch [
      | then-value-low-via-then-value-low w ↦ omega (arith, above, w.if-value-low.true)
      | then-value-low-via-else-value-low+then-high-value w ↦ omega (arith, below, w.if-high-value.true)
    ] in
    first_none c.args.low c.args.high (split_at c.args.at c.args.text.now) (decimal found.value)
    (left c.args.at found.rest) found.ensures.parts
    (found_outside c.args.low c.args.high found.value (decimal found.value) (omega (arith, found.ensures.digit))
    c.ranges.high.fits refl out)

pub returns-clause-value : goal.returns-clause-value
returns-clause-value c =
    let found = c.in_ok-value in
    first_some c.args.low c.args.high found.value (split_at c.args.at c.args.text.now) (decimal found.value)
    (left c.args.at found.rest) found.ensures.parts
    (found_within c.args.low c.args.high found.value (decimal found.value) (omega (arith, found.ensures.digit)) refl
    (omega (arith, c.if-value-low.false)) (omega (arith, c.if-high-value.false)))
