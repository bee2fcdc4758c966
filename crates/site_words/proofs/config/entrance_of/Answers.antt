use Rattle.std.proofs.Common.{◌≡◌, ◌∙◌, Some, arith}
use Rattle.site_words.proofs.Peers.{split_number, unsplit}
use Rattle.site_words.proofs.config.entrance_of.Goals as goal

pub returns-in_err-number : goal.returns-in_err-number
returns-in_err-number c = rw c.from_residual.ensures
    (λ p other. unsplit p.site c.args.word.now p.address
    (omega (arith, other.most, c.ranges.sites.fits)) c.in_err-number.ensures.cases)

pub returns-in_err-site : goal.returns-in_err-site
returns-in_err-site c = rw c.from_residual-in_err-site.ensures (λ p other same.
    let is = split_number p.site c.args.word.now p.address c.in_ok-number.number c.in_ok-number.address
    (omega (arith, other.most, c.ranges.sites.fits)) c.in_ok-number.ensures.cases same in
    let bad = c.in_err-site.ensures.only p.site (omega (arith, other.least)) (omega (arith, other.most))
    (c.as_bytes.ensures.value ∙ is) in
    cc)

pub returns-then-site-id : goal.returns-then-site-id
returns-then-site-id c = λ p other same.
    let is = split_number p.site c.args.word.now p.address c.in_ok-number.number c.in_ok-number.address
    (omega (arith, other.most, c.ranges.sites.fits)) c.in_ok-number.ensures.cases same in
    let read : Some c.in_ok-site.site ≡ Some p.site =
    c.in_ok-site.ensures.only p.site (omega (arith, other.least)) (omega (arith, other.most))
    (c.as_bytes.ensures.value ∙ is) in
    let own = c.if-site-id.true in
    let bad : p.site ≡ c.args.id = cc in
    other.other bad
