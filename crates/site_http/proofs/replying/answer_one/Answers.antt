use Rattle.std.proofs.Common.{ℕ, List, [], ◌∷◌, ◌++◌, inl, inr, refl, ap, sym, ◌∙◌, arith, append-nil}
use Rattle.refusals.specs.Refusals.{LineAnswer}
use Rattle.site_http.specs.Replying.{no_memory}
use Rattle.site_http.proofs.replying.answer_one.Goals as goal

pub returns-in-Ok : goal.returns-in-Ok
returns-in-Ok g c =
    let ok = c.in-Ok.ensures.ok in
    let line = ok.0 ++ 10 ∷ [] in
    let answer : LineAnswer = record { text = ok.0; how = c.in-Ok.answered } in (
      answer ∷ [],
      inl (record {
        each = (answer, c.answer_line.new.client, [], ok.1, (refl, refl), refl);
        within = omega arith;
        status = c.status_of.ensures;
      }),
      ok.2.text ∙ ap (λ (l : List ℕ). l ++ line) c.requires.fresh ∙ sym (append-nil line),
    )

pub returns-in-Err : goal.returns-in-Err
returns-in-Err g c =
    let err = c.in-Err.ensures.err in
    let line = no_memory.text ++ 10 ∷ [] in (
      no_memory ∷ [],
      inr (record {
        given = [];
        some = record {
          done = [];
          line = c.args.text.now ++ 10 ∷ [];
          left = [];
          parted = refl;
          each = (refl, err.0);
          within = omega arith;
        };
        told = refl;
        status = c.stop.ensures.status;
      }),
      c.stop.ensures.text ∙ ap (λ (l : List ℕ). l ++ line) (err.1.text ∙ c.requires.fresh) ∙ sym (append-nil line),
    )
