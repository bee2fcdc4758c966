use Rattle.std.proofs.Common.{ℕ, List, [], ◌∷◌, ◌++◌, refl, ap, sym, ◌∙◌, append-nil}
use Rattle.site_http.specs.Replying.{bad_key}
use Rattle.site_http.proofs.replying.answer_body.Goals as goal

pub returns-in-Bad : goal.returns-in-Bad
returns-in-Bad g c =
    let line = bad_key.text ++ 10 ∷ [] in (
      bad_key ∷ [],
      rw (c.in-Bad.is, c.refuse.ensures.status) (refl, refl, refl),
      c.refuse.ensures.text ∙ ap (λ (l : List ℕ). l ++ line) c.requires.fresh ∙ sym (append-nil line),
    )
