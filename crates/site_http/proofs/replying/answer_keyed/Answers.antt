use Rattle.std.proofs.Common.{ℕ, Some, List, [], ◌∷◌, ◌++◌, ap, sym, ◌∙◌, append-nil}
use Rattle.site_http.specs.Replying.{bad_key}
use Rattle.site_http.proofs.Answered.{refused_many}
use Rattle.site_http.proofs.replying.answer_keyed.Goals as goal

pub returns-in-None : goal.returns-in-None
returns-in-None g c =
    let line = bad_key.text ++ 10 ∷ [] in (
      bad_key ∷ [],
      rw c.refuse.ensures.status
          (refused_many (g.C.Backend.answers (Some c.args.key) c.args.waits) bad_key c.args.client.now _ c.in-None.ensures.other),
      c.refuse.ensures.text ∙ ap (λ (l : List ℕ). l ++ line) c.requires.fresh ∙ sym (append-nil line),
    )
