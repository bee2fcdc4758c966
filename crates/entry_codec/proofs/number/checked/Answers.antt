use Rattle.std.proofs.Common.{◌^◌, ◌<◌, sym, ◌∙◌, arith}
use Rattle.entry_codec.proofs.Numbers.{found_within, found_outside, found_none}
use Rattle.entry_codec.proofs.Digits.{spelled, not_canonical}
use Rattle.entry_codec.proofs.number.checked.Goals as goal

pub returns-then-not-is_canonical-clause-value : goal.returns-then-not-is_canonical-clause-value
returns-then-not-is_canonical-clause-value c =
    let bad = sym c.is_canonical.ensures ∙ c.if-not-is_canonical.true in
    found_none c.args.low c.args.high c.args.digits.now (omega (arith, c.ranges.high.fits))
    (λ n fits e. not_canonical c.args.digits.now n bad fits e)

pub returns-then-value-low-clause-value : goal.returns-then-value-low-clause-value
returns-then-value-low-clause-value c =
    let fits : c.args.value < 2 ^ 64 = omega (arith, c.ranges.value.fits) in
    let is = spelled c.args.digits.now c.args.value c.requires.digits c.requires.value fits (sym c.is_canonical.ensures
    ∙ c.if-not-is_canonical.false) in
    found_outside c.args.low c.args.high c.args.value c.args.digits.now fits (omega (arith, c.ranges.high.fits)) is
    (λ above below. omega (arith, above, c.if-value-low.true))

pub returns-then-value-high-clause-value : goal.returns-then-value-high-clause-value
returns-then-value-high-clause-value c =
    let fits : c.args.value < 2 ^ 64 = omega (arith, c.ranges.value.fits) in
    let is = spelled c.args.digits.now c.args.value c.requires.digits c.requires.value fits (sym c.is_canonical.ensures
    ∙ c.if-not-is_canonical.false) in
    found_outside c.args.low c.args.high c.args.value c.args.digits.now fits (omega (arith, c.ranges.high.fits)) is
    (λ above below. omega (arith, below, c.if-value-high.true))

pub returns-clause-value : goal.returns-clause-value
returns-clause-value c =
    let fits : c.args.value < 2 ^ 64 = omega (arith, c.ranges.value.fits) in
    let is = spelled c.args.digits.now c.args.value c.requires.digits c.requires.value fits (sym c.is_canonical.ensures
    ∙ c.if-not-is_canonical.false) in
    found_within c.args.low c.args.high c.args.value c.args.digits.now fits is c.if-value-low.false
    c.if-value-high.false
