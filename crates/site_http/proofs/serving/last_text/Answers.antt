use Rattle.std.proofs.Common.{◌∙◌, ap, subst, ℕ, List, ◌++◌}
use Rattle.site_http.specs.Refusing.{ComesFirst}
use Rattle.site_http.proofs.ConverseLaws.{some_so}
use Rattle.site_http.proofs.serving.last_text.Goals as goal

pub returns : goal.returns
returns c =
    let front = c.in_ok-front.front.now in
    let first = subst (λ (p : List ℕ). ComesFirst c.args.why p front) (c.as_slice.ensures.value ∙ c.in_ok-waits.ensures)
    c.in_ok-front.ensures in
    some_so c.joined.result (λ text is. (front, first, is ∙ ap (λ (t : List ℕ). front ++ t) c.text.ensures)) c.joined.ensures
