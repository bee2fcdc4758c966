use Rattle.std.proofs.Common.{◌<◌, ◌^◌, ap, ◌∙◌, arith}
use Rattle.std.specs.Char.{digit_value}
use Rattle.std.proofs.lemmas.List.{length-take-le, get_or-take}
use Rattle.entry_codec.proofs.Digits.{tenfold, reads_more}
use Rattle.entry_codec.proofs.number.leading_digits.Goals as goal
use Rattle.entry_codec.proofs.number.leading_digits.Goals.{In-Some}

-- the value of the digits so far, to which one more is added
small : (c : goal.In-Some) → c.loop-count.value < 10 ^ 18
small c =
    let text = c.args.text.now in
    let long = length-take-le c.min.result text (omega (arith, c.min.ensures)) in
    tenfold text c.loop-count.count c.loop-count.value
    (omega (arith, c.loop-count-test.true, long, c.min.ensures))
    (omega (arith, c.loop-count-test.true, long, c.min.ensures)) c.loop-count.invariant

pub overflow_mul-value : goal.overflow_mul-value
overflow_mul-value c = omega (arith, small (goal.at.overflow_mul-value c).In-Some)

pub overflow_add-value : goal.overflow_add-value
overflow_add-value c = omega (arith, small (goal.at.overflow_add-value c).In-Some, c.in-Some.ensures.0)

pub loop-count-preserved : goal.loop-count-preserved
loop-count-preserved c =
    let text = c.args.text.now in
    let count = c.loop-count.count in
    let long = length-take-le c.min.result text (omega (arith, c.min.ensures)) in
    let below : count < c.min.result = omega (arith, c.loop-count-test.true, long) in
    let digit = c.in-Some.ensures in
    reads_more text count c.loop-count.value c.in-Some.digit (omega (arith, below, c.min.ensures)) digit.0 (digit.1
    ∙ ap digit_value (get_or-take c.min.result text count 0 below)) c.loop-count.invariant
