use Rattle.std.proofs.Common.{◌∙◌, arith}
use Rattle.site_words.proofs.Peers.{split_number, unsplit}
use Rattle.site_words.proofs.config.address_of.Goals as goal

pub returns-in_err-number : goal.returns-in_err-number
returns-in_err-number c = rw c.from_residual.ensures
    (λ address. unsplit c.args.site c.args.word.now address
    (omega (arith, c.ranges.site.fits)) c.in_err-number.ensures.cases)

pub returns-in_err-read_decimal : goal.returns-in_err-read_decimal
returns-in_err-read_decimal c = rw c.from_residual-in_err-read_decimal.ensures (λ address same.
    let is = split_number c.args.site c.args.word.now address c.in_ok-number.number c.in_ok-number.address
    (omega (arith, c.ranges.site.fits)) c.in_ok-number.ensures.cases same in
    let bad = c.in_err-read_decimal.ensures.only c.args.site (omega arith) (omega arith) (c.as_bytes.ensures.value
    ∙ is) in
    cc)
