use Rattle.std.proofs.Common.{ℕ, true, None, List, [], ◌∷◌, ◌++◌, ap, sym, ◌∙◌, append-nil}
use Rattle.site_http.specs.Replying.{bad_command}
use Rattle.site_http.proofs.Answered.{refused_many}
use Rattle.site_http.proofs.replying.answer_unkeyed.Goals as goal

pub returns-then-waits : goal.returns-then-waits
returns-then-waits g c =
    let line = bad_command.text ++ 10 ∷ [] in (
      bad_command ∷ [],
      rw (c.if-waits.true, c.refuse.ensures.status)
          (refused_many (g.C.Backend.answers None true) bad_command c.args.client.now _ c.in-None.ensures.other),
      c.refuse.ensures.text ∙ ap (λ (l : List ℕ). l ++ line) c.requires.fresh ∙ sym (append-nil line),
    )
