use Rattle.std.proofs.Common.{[], take, arith}
use Rattle.entry_codec.specs.Parts.{split_at}
use Rattle.entry_codec.proofs.Digits.{parted, unparted, first_some, first_none}
use Rattle.entry_codec.proofs.parts.first_decimal.Goals as goal

pub returns-in_err-checked-clause-value : goal.returns-in_err-checked-clause-value
returns-in_err-checked-clause-value c =
    let text = c.in_ok-text.text.now in
    let read = c.leading_digits-value in
    let all = unparted text read.result.1 c.args.at (omega (arith, c.if-count-text.true)) c.requires.apart
    read.ensures.read.digits in
    rw (c.from_residual-in_err-checked.ensures, c.in_ok-text.was)
    (first_none c.args.low c.args.high (split_at c.args.at text) text [] all.1 c.in_err-checked.ensures.value)

pub returns-then-count-text-clause-value : goal.returns-then-count-text-clause-value
returns-then-count-text-clause-value c =
    let text = c.in_ok-text.text.now in
    let read = c.leading_digits-value in
    let all = unparted text read.result.1 c.args.at (omega (arith, c.if-count-text.true)) c.requires.apart
    read.ensures.read.digits in
    rw c.in_ok-text.was (first_some c.args.low c.args.high c.in_ok-checked.field-0 (split_at c.args.at text) text
    [] all.1 c.in_ok-checked.ensures.value)

pub returns-in_err-value-clause-value : goal.returns-in_err-value-clause-value
returns-in_err-value-clause-value c =
    let text = c.in_ok-text.text.now in
    let read = c.leading_digits-value in
    let count = read.result.1 in
    let parts = parted text count c.args.at (omega (arith, read.ensures.within, c.if-count-text.false)) c.requires.apart
    c.if-text-count.true read.ensures.read.digits in
    rw (c.from_residual-in_err-value.ensures, c.in_ok-text.was)
    (first_none c.args.low c.args.high (split_at c.args.at text)
    (take count text) _ parts c.in_err-value.ensures.value)

pub returns-then-text-count-clause-value : goal.returns-then-text-count-clause-value
returns-then-text-count-clause-value c =
    let text = c.in_ok-text.text.now in
    let read = c.leading_digits-value in
    let count = read.result.1 in
    let parts = parted text count c.args.at (omega (arith, read.ensures.within, c.if-count-text.false)) c.requires.apart
    c.if-text-count.true read.ensures.read.digits in
    rw c.in_ok-text.was (first_some c.args.low c.args.high c.in_ok-value.value (split_at c.args.at text)
    (take count text) _ parts c.in_ok-value.ensures.value)
