use Rattle.std.proofs.Common.{ℕ, List, [], ◌∷◌, ◌++◌, ap, ◌∙◌}
use Rattle.site_http.proofs.replying.answer_line.Goals as goal

pub returns-clause-ok : goal.returns-clause-ok
returns-clause-ok g c =
    let got = c.in_ok-answered.ensures.ok (c.args.text.now ++ 10 ∷ []) c.within_limit.ensures in
    let put = c.in_ok-put_reply.ensures.ok in
    let line = got.0 ++ 10 ∷ [] in
    let whole = got.2.whole ∙ ap (λ (l : List ℕ). l ++ line) c.clear.ensures.whole in (
      got.0,
      got.1,
      record {
        whole = whole;
        text = put.0 ∙ ap (λ (l : List ℕ). l ++ c.reply.new.replies.whole) c.in_ok-reserve.ensures.kept
            ∙ ap (λ (l : List ℕ). c.args.out.now.items ++ l) whole;
        room = put.1;
      },
    )
