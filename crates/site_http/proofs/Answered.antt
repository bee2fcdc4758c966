-- The replies to lines, one after another.
use Rattle.std.proofs.Common.{◌≡◌, ◌≢◌, ℕ, ◌<◌, List, [], ◌∷◌, ◌++◌, length, refl, ap, ◌∙◌, subst, arith, append-nil}
use Rattle.std.proofs.Common.{length-append, take_at}
use Rattle.std.proofs.lemmas.Grind.{flat_map-append}
use Rattle.refusals.specs.Refusals.{LineAnswer}
use Rattle.site_http.specs.Replying.{Answering, AnswersEach, RepliesToOne, WithinLimit, but_last, text_of}
use Rattle.site_http.specs.Replying.{status_of_all}
use Rattle.site_http.specs.declared.replying.TheConstants.{MAX_REPLIES}

pub text_more : (given : List LineAnswer) (answer : LineAnswer)
    → text_of (given ++ answer ∷ []) ≡ text_of given ++ (answer.text ++ 10 ∷ [])
text_more given answer =
    flat_map-append (λ (a : LineAnswer). a.text ++ 10 ∷ []) given (answer ∷ [])
    ∙ ap (λ (l : List ℕ). text_of given ++ l) (append-nil (answer.text ++ 10 ∷ []))

-- an answer to a line that began below the limit
pub within_more : (given : List LineAnswer) (answer : LineAnswer) → length (text_of given) < MAX_REPLIES
    → WithinLimit (given ++ answer ∷ [])
within_more given answer below =
    let before : but_last (given ++ answer ∷ []) ≡ given
    = take_at given (answer ∷ []) _ (omega (arith, length-append given (answer ∷ []))) in
    rw before below

module _ {S : Type 0} (answers : Answering S) where
  pub answers_more : (old mid new : S) (lines : List (List ℕ)) (given : List LineAnswer) (line : List ℕ) (answer : LineAnswer)
      → AnswersEach answers old lines given mid → answers mid line answer new
      → AnswersEach answers old (lines ++ line ∷ []) (given ++ answer ∷ []) new
  answers_more old mid new [] given line answer p a =
      rw p.0 (answer, new, [], subst (λ (s : S). answers s line answer new) p.1 a, (refl, refl), refl)
  answers_more old mid new (first ∷ lines) given line answer p a = (
    p.0,
    p.1,
    p.2 ++ answer ∷ [],
    p.3,
    answers_more p.1 mid new lines p.2 line answer p.4 a,
    ap (λ (l : List LineAnswer). l ++ answer ∷ []) p.5,
  )

  -- replies to no line or to several have the status 200
  pub status_of_many : (old new : S) (lines : List (List ℕ)) (given : List LineAnswer) → length lines ≢ 1
      → AnswersEach answers old lines given new → 200 ≡ status_of_all given
  status_of_many old new [] given other p = rw p.0 refl
  status_of_many old new (line ∷ []) given other p = absurd (other refl)
  status_of_many old new (line ∷ next ∷ lines) given other p = rw (p.5, p.4.5) refl

  -- if there must be one line, none or several are refused
  pub refused_many : (refusal : LineAnswer) (old : S) (lines : List (List ℕ)) → length lines ≢ 1
      → RepliesToOne answers refusal old lines 400 (refusal ∷ []) old
  refused_many refusal old [] other = (refl, refl, refl)
  refused_many refusal old (line ∷ []) other = absurd (other refl)
  refused_many refusal old (line ∷ next ∷ lines) other = (refl, refl, refl)
