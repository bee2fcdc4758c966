use Rattle.std.proofs.Common.{◌∙◌, sym}
use Rattle.line_streams.proofs.WordLaws.{site_named}
use Rattle.line_streams.proofs.words.optional_site.Goals as goal

pub returns-in_err-only_site-in-Some : goal.returns-in_err-only_site-in-Some
returns-in_err-only_site-in-Some c =
    let none = sym c.only_site.ensures ∙ c.in_err-only_site-in-Some.was in
    c.from_residual.ensures ∙ rw (c.in-Some.is, site_named c.in-Some.field-0, rw c.in-Some.is at none)

pub returns-in_ok-only_site-in-Some : goal.returns-in_ok-only_site-in-Some
returns-in_ok-only_site-in-Some c =
    let some = sym c.only_site.ensures ∙ c.in_ok-only_site-in-Some.was in
    rw (c.in-Some.is, site_named c.in-Some.field-0, rw c.in-Some.is at some)
