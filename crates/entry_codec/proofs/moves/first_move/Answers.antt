use Rattle.std.proofs.Common.{◌∷◌, ap, ◌∙◌}
use Rattle.entry_codec.specs.Moves.{◌>>=◌}
use Rattle.entry_codec.proofs.FirstMoves.{issue_first, spend_first, issued, spent}
use Rattle.entry_codec.proofs.moves.first_move.Goals as goal

pub returns-in_err-amount : goal.returns-in_err-amount
returns-in_err-amount c =
    let letter = c.in-Some.ensures ∙ ap (λ x. x ∷ 58 ∷ c.in-Some.values.now) c.if-letter-eq-ISSUE_LETTER.true in
    rw (c.from_residual.ensures, letter) (issue_first c.in-Some.values.now
    ∙ ap (λ o. o >>= issued) c.in_err-amount.ensures.value)

pub returns-then-letter-eq-ISSUE_LETTER : goal.returns-then-letter-eq-ISSUE_LETTER
returns-then-letter-eq-ISSUE_LETTER c =
    let letter = c.in-Some.ensures ∙ ap (λ x. x ∷ 58 ∷ c.in-Some.values.now) c.if-letter-eq-ISSUE_LETTER.true in
    rw (c.known.ensures, letter) (issue_first c.in-Some.values.now
    ∙ ap (λ o. o >>= issued) c.in_ok-amount.ensures.value)

pub returns-in_err-amount-2 : goal.returns-in_err-amount-2
returns-in_err-amount-2 c =
    let letter = c.in-Some.ensures ∙ ap (λ x. x ∷ 58 ∷ c.in-Some.values.now) c.if-letter-eq-SPEND_LETTER.true in
    rw (c.from_residual-in_err-amount-2.ensures, letter) (spend_first c.in-Some.values.now
    ∙ ap (λ o. o >>= spent) c.in_err-amount-2.ensures.value)

pub returns-then-letter-eq-SPEND_LETTER : goal.returns-then-letter-eq-SPEND_LETTER
returns-then-letter-eq-SPEND_LETTER c =
    let letter = c.in-Some.ensures ∙ ap (λ x. x ∷ 58 ∷ c.in-Some.values.now) c.if-letter-eq-SPEND_LETTER.true in
    rw (c.known-then-letter-eq-SPEND_LETTER.ensures, letter) (spend_first c.in-Some.values.now
    ∙ ap (λ o. o >>= spent) c.in_ok-amount-2.ensures.value)
