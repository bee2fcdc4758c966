use Rattle.std.proofs.Common.{◌≡◌, ◌++◌, ◌∷◌, ℕ, List, [], refl, ◌∙◌, sym, arith, vec_len}
use Rattle.std.proofs.lemmas.Bool.{eqb-true}
use Rattle.std.proofs.lemmas.List.{nil_from_length}
use Rattle.std.proofs.lemmas.Result.{IfOk-weaker}
use Rattle.line_streams.proofs.CarryLaws.{none_carried, carried_whole}
use Rattle.line_streams.proofs.lines.Conversation.end_line.Goals as goal

pub returns-then-is_empty-clause-line : goal.returns-then-is_empty-clause-line
returns-then-is_empty-clause-line g c =
    let carry = c.args.self.now.carry in
    let text : List ℕ = c.args.text.now in
    let none : carry.items ≡ []
    = nil_from_length carry.items
    (omega (arith, carry.ok.0, eqb-true (vec_len carry) 0 (sym c.if-is_empty.ensures))) in
    IfOk-weaker c.answer.result _ _
    (λ goes gets front carried. rw (none_carried carry.items front none carried)
    (gets (text ++ 10 ∷ []) (c.within_limit.ensures text refl)))
    c.answer.ensures.ok

pub returns-clause-line : goal.returns-clause-line
returns-clause-line g c = λ front carried.
    let text : List ℕ = c.args.text.now in
    c.in_ok-goes.ensures.ok ((front ++ text) ++ 10 ∷ [])
    (c.within_limit-2.ensures (front ++ text)
    (carried_whole front text c.args.self.now.carry.items c.as_slice.result.now carried (c.as_slice.ensures.value
    ∙ c.in_ok-keep.ensures)))
