use Rattle.std.proofs.Common.{ℕ, leb, leb-false, false, None, List, [], ◌∷◌, ◌++◌, length, ap, sym, ◌∙◌, append_assoc}
use Rattle.line_streams.specs.Talk.{lines_of}
use Rattle.refusals.specs.Refusals.{LineAnswer}
use Rattle.site_http.specs.Replying.{text_of}
use Rattle.site_http.specs.declared.replying.TheConstants.{MAX_REPLIES}
use Rattle.site_http.proofs.Answered.{text_more, within_more, answers_more}
use Rattle.site_http.proofs.replying.answer_lines.Goals as goal

pub loop-text-preserved : goal.loop-text-preserved
loop-text-preserved g c =
    let inv = c.loop-text.invariant in
    let done = inv.answered.0 in
    let given = inv.answered.1 in
    let put = c.in_ok-answer_line.ensures.ok in
    let answer : LineAnswer = record { text = put.0; how = c.in_ok-answer_line.field-0 } in
    let line = c.in-Some.text.now ++ 10 ∷ [] in
    let below = leb-false MAX_REPLIES (length (text_of given))
    (ap (λ (l : List ℕ). leb MAX_REPLIES (length l)) (sym inv.answered.5) ∙ sym c.is_full.ensures
    ∙ c.if-is_full.false) in
    record {
      answered = (
        done ++ line ∷ [],
        given ++ answer ∷ [],
        answers_more (g.C.Backend.answers None false) _ _ _ done given line answer inv.answered.2 put.1,
        within_more given answer below,
        inv.answered.4 ∙ ap (λ (l : List (List ℕ)). done ++ l) c.in-Some.ensures.first
            ∙ sym (append_assoc done (line ∷ []) (lines_of c.in-Some.more.now)),
        put.2.text ∙ ap (λ (l : List ℕ). l ++ (put.0 ++ 10 ∷ [])) inv.answered.5 ∙ sym (text_more given answer),
      );
      room = put.2.room;
    }
