use Rattle.std.proofs.Common.{◌<◌, [], length, take, ap, refl, arith}
use Rattle.entry_codec.specs.Parts.{split_at}
use Rattle.entry_codec.specs.Moves.{first_number}
use Rattle.entry_codec.proofs.Digits.{parted, unparted, bad_first, first_some, first_none}
use Rattle.entry_codec.proofs.parts.first_number.Goals as goal

pub returns-in_err-text-clause-value : goal.returns-in_err-text-clause-value
unfolding first_number
returns-in_err-text-clause-value c = rw (c.from_residual.ensures, c.in_err-text.was) refl

pub returns-in_err-checked-clause-value : goal.returns-in_err-checked-clause-value
returns-in_err-checked-clause-value c =
    let text = c.in_ok-text.text.now in
    let all = unparted text c.leading_digits-value.result.1 c.args.at (omega (arith, c.if-count-text.true))
    c.requires.apart c.leading_digits-value.ensures.read.digits in
    rw (c.from_residual-in_err-checked.ensures, c.in_ok-text.was)
    (first_none c.args.low c.args.high (split_at c.args.at text) text [] all.1 c.in_err-checked.ensures.value)

pub returns-then-count-text-clause-value : goal.returns-then-count-text-clause-value
returns-then-count-text-clause-value c =
    let text = c.in_ok-text.text.now in
    let all = unparted text c.leading_digits-value.result.1 c.args.at (omega (arith, c.if-count-text.true))
    c.requires.apart c.leading_digits-value.ensures.read.digits in
    rw c.in_ok-text.was (first_some c.args.low c.args.high c.in_ok-checked.field-0 (split_at c.args.at text) text
    [] all.1 c.in_ok-checked.ensures.value)

pub returns-then-text-count-clause-value : goal.returns-then-text-count-clause-value
returns-then-text-count-clause-value c =
    let d = c.leading_digits-value.ensures in
    let lt : c.leading_digits-value.result.1 < length c.in_ok-text.text.now
    = omega (arith, d.within, c.if-count-text.false) in
    rw c.in_ok-text.was (bad_first c.args.low c.args.high c.args.at c.leading_digits-value.result.1
    c.leading_digits-value.result.0 c.in_ok-text.text.now lt d.few c.requires.apart c.requires.high d.read
    c.if-text-count.true
    (λ short. d.stop lt short))

pub returns-in_err-value-clause-value : goal.returns-in_err-value-clause-value
returns-in_err-value-clause-value c =
    let d = c.leading_digits-value.ensures in
    let text = c.in_ok-text.text.now in
    let count = c.leading_digits-value.result.1 in
    let parts = parted text count c.args.at (omega (arith, d.within, c.if-count-text.false)) c.requires.apart
    c.if-text-count.false d.read.digits in
    rw (c.from_residual-in_err-value.ensures, c.in_ok-text.was)
    (first_none c.args.low c.args.high (split_at c.args.at text)
    (take count text) _ parts c.in_err-value.ensures.value)

pub returns-clause-value : goal.returns-clause-value
returns-clause-value c =
    let d = c.leading_digits-value.ensures in
    let text = c.in_ok-text.text.now in
    let count = c.leading_digits-value.result.1 in
    let parts = parted text count c.args.at (omega (arith, d.within, c.if-count-text.false)) c.requires.apart
    c.if-text-count.false d.read.digits in
    rw c.in_ok-text.was (first_some c.args.low c.args.high c.in_ok-value.value (split_at c.args.at text)
    (take count text) _ parts c.in_ok-value.ensures.value)

pub returns-clause-shorter : goal.returns-clause-shorter
returns-clause-shorter c =
    let d = c.leading_digits-value.ensures in
    let parts = parted c.in_ok-text.text.now c.leading_digits-value.result.1 c.args.at
    (omega (arith, d.within, c.if-count-text.false)) c.requires.apart c.if-text-count.false d.read.digits in
    rw c.in_ok-text.was (omega (arith, ap length parts))
