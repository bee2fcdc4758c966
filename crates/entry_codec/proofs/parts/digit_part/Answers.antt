use Rattle.std.proofs.Common.{arith}
use Rattle.entry_codec.proofs.Digits.{digit_alone, digit_parted}
use Rattle.entry_codec.proofs.parts.digit_part.Goals as goal

pub returns-in_ok-digit-in-len1-clause-parts : goal.returns-in_ok-digit-in-len1-clause-parts
returns-in_ok-digit-in-len1-clause-parts c =
    let one = c.in-len1 in
    let digit = c.in_ok-digit-in-len1.ensures in
    digit_alone c.args.text.now c.args.at c.in_ok-digit-in-len1.field-0 (omega (arith, one.len_at_least, one.len_below))
    c.requires.apart digit.0 digit.1

pub returns-in_ok-digit-in-len2-up-clause-parts : goal.returns-in_ok-digit-in-len2-up-clause-parts
returns-in_ok-digit-in-len2-up-clause-parts c =
    let digit = c.in_ok-digit-in-len2-up.ensures in
    digit_parted c.args.text.now c.args.at c.in_ok-digit-in-len2-up.field-0 (omega (arith, c.in-len2-up.len_at_least))
    c.requires.apart c.if-next-at.false digit.0 digit.1
