use Rattle.std.proofs.Common.{ℕ, false, None, List, [], ◌∷◌, ◌++◌, inl, inr, refl, ap, sym, ◌∙◌}
use Rattle.site_http.specs.Replying.{no_memory}
use Rattle.site_http.proofs.Answered.{text_more, status_of_many}
use Rattle.site_http.proofs.replying.answer_many.Goals as goal

pub returns-in-Ok : goal.returns-in-Ok
returns-in-Ok g c =
    let ok = c.in-Ok.ensures.ok in (
      ok.0,
      inl (record {
        each = ok.1;
        within = ok.2;
        status = status_of_many (g.C.Backend.answers None false) _ _ _ ok.0 c.requires.other ok.1;
      }),
      ok.3,
    )

pub returns-in-Err : goal.returns-in-Err
returns-in-Err g c =
    let err = c.in-Err.ensures.err in (
      err.0 ++ no_memory ∷ [],
      inr (record { given = err.0; some = err.1; told = refl; status = c.stop.ensures.status }),
      c.stop.ensures.text ∙ ap (λ (l : List ℕ). l ++ (no_memory.text ++ 10 ∷ [])) err.2 ∙ sym (text_more err.0 no_memory),
    )
