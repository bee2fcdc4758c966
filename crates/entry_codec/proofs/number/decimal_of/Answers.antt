use Rattle.std.proofs.Common.{◌≡◌, ◌+◌, ◌*◌, ◌<◌, ◌≤◌, length, get_or, ap, ◌∙◌, arith}
use Rattle.std.specs.Char.{digit_value}
use Rattle.std.specs.Str.Parse.{AllDigits, digits_value}
use Rattle.entry_codec.proofs.Numbers.{found_none}
use Rattle.entry_codec.proofs.Digits.{read_whole, reads_more, by_last, all_digits, too_many, last_of}
use Rattle.entry_codec.proofs.number.decimal_of.Goals as goal

pub returns-in_err-last-in-len1 : goal.returns-in_err-last-in-len1
returns-in_err-last-in-len1 c =
    let text = c.args.text.now in
    let count = c.leading_digits-front.result.1 in
    let lt : count < length text = omega (arith, c.in-len1.len_at_least) in
    let here = last_of text count lt in
    rw c.from_residual.ensures (found_none c.args.least c.args.most text (omega (arith, c.ranges.most.fits))
    (λ n fits e. all_digits text count n lt (rw (← here) c.in_err-last-in-len1.ensures) fits e))

pub returns-in_err-checked_mul-in-len1 : goal.returns-in_err-checked_mul-in-len1
returns-in_err-checked_mul-in-len1 c =
    let text = c.args.text.now in
    let d = c.leading_digits-front in
    let long : length text ≡ d.result.1 + 1 = omega (arith, c.in-len1.len_at_least, c.in-len1.len_below) in
    rw c.from_residual-in_err-checked_mul-in-len1.ensures
    (found_none c.args.least c.args.most text (omega (arith, c.ranges.most.fits)) (λ n fits e.
    omega (
      arith,
      by_last text d.result.1 d.result.0 n long d.ensures.read fits e,
      fits,
      c.in_err-checked_mul-in-len1.ensures,
    )))

pub returns-in_err-checked_add-in-len1 : goal.returns-in_err-checked_add-in-len1
returns-in_err-checked_add-in-len1 c =
    let text = c.args.text.now in
    let d = c.leading_digits-front in
    let long : length text ≡ d.result.1 + 1 = omega (arith, c.in-len1.len_at_least, c.in-len1.len_below) in
    let last : c.in_ok-last-in-len1.last ≡ digit_value (get_or text d.result.1 0) = c.in_ok-last-in-len1.ensures.1
    ∙ ap digit_value (last_of text d.result.1 (omega (arith, long))) in
    let tens : c.in_ok-checked_mul-in-len1.field-0 ≡ d.result.0 * 10
    = omega (arith, c.in_ok-checked_mul-in-len1.ensures) in
    rw c.from_residual-in_err-checked_add-in-len1.ensures
    (found_none c.args.least c.args.most text (omega (arith, c.ranges.most.fits)) (λ n fits e.
    omega (
      arith,
      by_last text d.result.1 d.result.0 n long d.ensures.read fits e,
      fits,
      last,
      tens,
      c.in_err-checked_add-in-len1.ensures,
    )))

-- all digits, and their value
whole : (c : goal.In_ok-checked_add-in-len1)
    → AllDigits 10 c.args.text.now × (c.in_ok-checked_add-in-len1.field-0 ≡ digits_value 10 c.args.text.now)
whole c =
    let text = c.args.text.now in
    let d = c.leading_digits-front in
    let long : length text ≡ d.result.1 + 1 = omega (arith, c.in-len1.len_at_least, c.in-len1.len_below) in
    let last : c.in_ok-last-in-len1.last ≡ digit_value (get_or text d.result.1 0) = c.in_ok-last-in-len1.ensures.1
    ∙ ap digit_value (last_of text d.result.1 (omega (arith, long))) in
    let all = read_whole text (d.result.1 + 1) _ (omega (arith, long))
    (reads_more text d.result.1 d.result.0 c.in_ok-last-in-len1.last
    (omega (arith, long)) c.in_ok-last-in-len1.ensures.0 last d.ensures.read) in
    (all.0, omega (arith, all.1, c.in_ok-checked_mul-in-len1.ensures, c.in_ok-checked_add-in-len1.ensures))

pub checked-requires-in-len1-clause-digits : goal.checked-requires-in-len1-clause-digits
checked-requires-in-len1-clause-digits c = (whole c).0

pub checked-requires-in-len1-clause-value : goal.checked-requires-in-len1-clause-value
checked-requires-in-len1-clause-value c = (whole c).1

pub returns-in_default : goal.returns-in_default
returns-in_default c =
    let text = c.args.text.now in
    let d = c.leading_digits-front in
    let long : d.result.1 + 2 ≤ length text = omega (arith, c.in_default.len_at_least, d.ensures.within) in
    found_none c.args.least c.args.most text (omega (arith, c.ranges.most.fits))
    (λ n fits e. too_many text d.result.1 n long d.ensures.few (d.ensures.stop (omega (arith, long))) fits e)
