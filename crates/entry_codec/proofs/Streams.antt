-- A stream that a cutter takes up to a line feed at a time.
use Rattle.std.proofs.Common.{◌≡◌, ◌≢◌, ℕ, zero, suc, ◌+◌, ◌-◌, true, false, eqb, List, [], ◌∷◌, ◌++◌, length, get_or}
use Rattle.std.proofs.Common.{take, Option, Some, None, refl, sym, ap, subst, ◌∙◌, arith, inl, inr, length-append}
use Rattle.std.proofs.Common.{append_assoc, append-nil}
use Rattle.std.specs.Prelude.{◌⊎◌, option_map}
use Rattle.std.specs.List.{position}
use Rattle.std.specs.Io.BufRead.{take_through, ends_with_byte}
use Rattle.std.proofs.lemmas.Bool.{cases_Bool, eqb-true, eqb-false, eq-eqb, ne_eqb}
use Rattle.std.proofs.lemmas.List.{get_or-append_right}
use Rattle.entry_codec.specs.Pieces.{pieces, unfinished, pieces_after, rest_after}
use Rattle.entry_codec.specs.Cutter.{CutterView, Holds, IsFed}
use Rattle.entry_codec.proofs.Cuts.{position-cons_yes, position-cons_no}
use Rattle.entry_codec.proofs.Views.{ends_taken}
use Rattle.entry_codec.proofs.Pieces.{HasNoEnd, pieces_append, rest_append, no_piece, one_piece}

-- ---- up to a line feed

abbrev upto : ℕ → Option ℕ → ℕ
upto n None = n
upto n (Some i) = i + 1

upto_more : (n : ℕ) (o : Option ℕ) → suc (upto n o) ≡ upto (suc n) (option_map (λ (i : ℕ). 1 + i) o)
upto_more n None = refl
upto_more n (Some i) = omega arith

through_len : (xs : List ℕ) → length (take_through 10 xs) ≡ upto (length xs) (position (λ b. eqb b 10) xs)
through_len [] = refl
through_len (x ∷ xs) =
    elim (cases_Bool (eqb x 10)) [
      | inl e ↦
          let one : length (take_through 10 (x ∷ xs)) ≡ 1 = rw e refl in
          one ∙ sym (ap (upto (suc (length xs))) (position-cons_yes (λ b. eqb b 10) x xs e))
      | inr e ↦
          let more : length (take_through 10 (x ∷ xs)) ≡ suc (length (take_through 10 xs)) = rw e refl in
          more ∙ ap suc (through_len xs) ∙ upto_more (length xs) (position (λ b. eqb b 10) xs)
          ∙ sym (ap (upto (suc (length xs))) (position-cons_no (λ b. eqb b 10) x xs e))
    ]

pub through_found : (xs : List ℕ) (i : ℕ) → Some i ≡ position (λ b. eqb b 10) xs → i + 1 ≡ length (take_through 10 xs)
through_found xs i e = sym (through_len xs ∙ ap (upto (length xs)) (sym e))

pub through_missed : (xs : List ℕ) → None ≡ position (λ b. eqb b 10) xs → length xs ≡ length (take_through 10 xs)
through_missed xs e = sym (through_len xs ∙ ap (upto (length xs)) (sym e))

pub through_is : (xs : List ℕ) → take (length (take_through 10 xs)) xs ≡ take_through 10 xs
through_is [] = refl
through_is (x ∷ xs) =
    elim (cases_Bool (eqb x 10)) [
      | inl e ↦ rw e refl
      | inr e ↦ rw e (ap (λ (t : List ℕ). x ∷ t) (through_is xs))
    ]

more_has_no_end : (x : ℕ) (xs : List ℕ) → x ≢ 10 → HasNoEnd xs → HasNoEnd (x ∷ xs)
more_has_no_end x xs other h zero lt = other
more_has_no_end x xs other h (suc k) lt = h k (omega (arith, lt))

-- what is taken has no line feed, or only at its end
through_cases : (xs : List ℕ)
    → HasNoEnd (take_through 10 xs) ⊎ ((front : List ℕ) × (take_through 10 xs ≡ front ++ 10 ∷ []) × HasNoEnd front)
through_cases [] = inl (λ k lt. absurd (omega (arith, lt)))
through_cases (x ∷ xs) =
    elim (cases_Bool (eqb x 10)) [
      | inl e ↦ inr ([], rw e (ap (λ (b : ℕ). b ∷ []) (eqb-true x 10 e)), λ k lt. absurd (omega (arith, lt)))
      | inr e ↦
          let whole : take_through 10 (x ∷ xs) ≡ x ∷ take_through 10 xs = rw e refl in
          elim (through_cases xs) [
            | inl h ↦ inl (subst HasNoEnd (sym whole) (more_has_no_end x (take_through 10 xs) (eqb-false x 10 e) h))
            | inr h ↦ inr (
              x ∷ h.0,
              whole
                  ∙ ap (λ (t : List ℕ). x ∷ t) h.1,
              more_has_no_end x h.0 (eqb-false x 10 e) h.2,
            )
          ]
    ]

-- ---- whether a piece is finished

still_open : (piece taken : List ℕ) → ends_with_byte 10 piece ≡ false → HasNoEnd taken
    → ends_with_byte 10 (piece ++ taken) ≡ false
still_open piece [] h none = ap (ends_with_byte 10) (append-nil piece) ∙ h
still_open piece (x ∷ xs) h none =
    ends_taken piece (x ∷ xs) (length (x ∷ xs)) refl (omega arith)
    ∙ ne_eqb (get_or (x ∷ xs) (length (x ∷ xs) - 1) 0) 10 (none (length (x ∷ xs) - 1) (omega arith))

now_ended : (piece front : List ℕ) → ends_with_byte 10 (piece ++ (front ++ 10 ∷ [])) ≡ true
now_ended piece front =
    let long = length-append front (10 ∷ []) in
    let last : get_or (front ++ 10 ∷ []) (length (front ++ 10 ∷ []) - 1) 0 ≡ 10 =
    get_or-append_right front (10 ∷ []) (length front) (length (front ++ 10 ∷ []) - 1) 0 refl (omega (arith, long))
    ∙ ap (λ (k : ℕ). get_or (10 ∷ []) k 0) (the_first (length (front ++ 10 ∷ [])) (length front) long) in
    ends_taken piece (front ++ 10 ∷ []) (length (front ++ 10 ∷ [])) refl (omega (arith, long)) ∙ eq-eqb _ 10 last where
      the_first : (m n : ℕ) → m ≡ n + 1 → (m - 1) - n ≡ 0
      the_first m n e = omega (arith, e)

-- ---- a stream

pub fed_more : (old new : CutterView) (stream bytes taken : List ℕ) (given : List (List ℕ)) → old.is_finished ≡ false
    → taken ≡ take_through 10 bytes
    → ((piece : List ℕ) → Holds old piece → Holds new (piece ++ taken)) → IsFed old stream given
    → IsFed new (stream ++ taken) given
fed_more old new stream bytes taken given waits is holds h =
    let piece = h.0 in
    let held = holds piece h.1 in
    let was : pieces stream ≡ given ++ [] = rw waits at h.2 in
    let left : unfinished stream ≡ piece = rw waits at h.3 in
    let ends : new.is_finished ≡ ends_with_byte 10 (piece ++ taken) = ap (λ (v : CutterView). v.is_finished) held in
    let before : ends_with_byte 10 piece ≡ false = sym (ap (λ (v : CutterView). v.is_finished) h.1) ∙ waits in
    let more : pieces (stream ++ taken) ≡ (given ++ []) ++ pieces_after piece taken =
    pieces_append [] stream taken ∙ ap (λ (ps : List (List ℕ)). ps ++ pieces_after (unfinished stream) taken) was
    ∙ ap (λ (t : List ℕ). (given ++ []) ++ pieces_after t taken) left in
    let rest : unfinished (stream ++ taken) ≡ rest_after piece taken = rest_append [] stream taken
    ∙ ap (λ (t : List ℕ). rest_after t taken) left in
    elim (through_cases bytes) [
      | inl none ↦
          let no_end : HasNoEnd taken = subst HasNoEnd (sym is) none in
          let p = no_piece piece taken no_end in
          let still : new.is_finished ≡ false = ends ∙ still_open piece taken before no_end in
          (piece ++ taken, held, rw still (more ∙ rw p.0 (append-nil (given ++ []))), rw still (rest ∙ p.1))
      | inr one ↦
          let all : taken ≡ one.0 ++ 10 ∷ [] = is ∙ one.1 in
          let p = one_piece piece one.0 one.2 in
          let ended : new.is_finished ≡ true = ends ∙ ap (λ (t : List ℕ). ends_with_byte 10 (piece ++ t)) all
          ∙ now_ended piece one.0 in
          let whole : pieces_after piece taken ≡ (piece ++ taken) ∷ [] = ap (pieces_after piece) all ∙ p.0
          ∙ ap (λ (t : List ℕ). t ∷ []) (append_assoc piece one.0 (10 ∷ [])
          ∙ ap (λ (t : List ℕ). piece ++ t) (sym all)) in
          let none : rest_after piece taken ≡ [] = ap (rest_after piece) all ∙ p.1 in (
            piece ++ taken,
            held,
            rw ended (more
                ∙ rw whole (ap (λ (ps : List (List ℕ)). ps ++ (piece ++ taken) ∷ []) (append-nil given))),
            rw ended (rest ∙ none),
          )
    ]
