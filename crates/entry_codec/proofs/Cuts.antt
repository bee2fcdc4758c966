-- A text that is split at a byte.
use Rattle.std.proofs.Common.{◌≡◌, ℕ, suc, ◌+◌, ◌-◌, ◌<◌, ◌≤◌, Bool, true, false, cond, ltb, eqb, ◌==◌, List, [], ◌∷◌}
use Rattle.std.proofs.Common.{length, take, drop, get_or, Option, Some, None, refl, sym, ◌∙◌, arith, inl, inr}
use Rattle.std.proofs.Common.{length-drop}
use Rattle.std.specs.List.{slice_split, position, position_or_len, before_first, after_first}
use Rattle.std.specs.Prelude.{option_map}
use Rattle.std.proofs.lemmas.Bool.{cases_Bool, cases_lt, ltb-true, ltb-false, lt-ltb, le-ltb, eq-eqb, ne_eqb}
use Rattle.std.proofs.lemmas.Bool.{false_from_ne_true}
use Rattle.std.proofs.lemmas.Option.{cond_some}
use Rattle.std.proofs.lemmas.List.{take_all}
use Rattle.std.proofs.lemmas.List.Splits.{slice_split_none, slice_split_first, length-slice_split}
use Rattle.std.proofs.lemmas.List.Sums.{fails_before_first, position_or_len_is, count_by-le-length}
use Rattle.memchr.specs.Find.{IsFirstByte, is_byte}
use Rattle.entry_codec.specs.Parts.{split_at}

pub uncut : (p : ℕ → Bool) (xs : List ℕ) → position p xs ≡ None → slice_split p xs ≡ xs ∷ []
uncut p xs e =
    elim (cases_Bool (ltb (position_or_len p xs) (length xs))) [
      | inl below ↦ let found : Some (position_or_len p xs) ≡ None = sym (rw below refl) ∙ e in absurd cc
      | inr past ↦ slice_split_none p xs (λ k d lt. fails_before_first p xs k d (omega (arith, ltb-false _ _ past)))
    ]

pub cut : (p : ℕ → Bool) (xs : List ℕ) (i : ℕ) → position p xs ≡ Some i
    → slice_split p xs ≡ take i xs ∷ slice_split p (take (length xs - (i + 1)) (drop (i + 1) xs))
cut p xs i e =
    let at = cond_some (ltb (position_or_len p xs) (length xs)) (position_or_len p xs) i e in
    let all : take (length xs - (i + 1)) (drop (i + 1) xs) ≡ drop (i + 1) xs
    = take_all (length xs - (i + 1)) (drop (i + 1) xs) (omega (arith, length-drop (i + 1) xs)) in
    let first : slice_split p xs ≡ before_first p xs ∷ slice_split p (after_first p xs)
    = slice_split_first p xs 0 (ltb-true _ _ at.0) in
    first ∙ rw (at.1, all) refl

-- a text has a part at least
pub some_parts : (at : ℕ) (text : List ℕ) → 1 ≤ length (split_at at text)
some_parts at text = omega (arith, length-slice_split (λ b. eqb b at) text)

pub few_parts : (at : ℕ) (text : List ℕ) → length (split_at at text) ≤ length text + 1
few_parts at text = omega (arith, length-slice_split (λ b. eqb b at) text, count_by-le-length (λ b. eqb b at) text)

-- ---- the first place of a byte

none_lt : (n m : ℕ) → ltb (1 + n) (suc m) ≡ ltb n m
none_lt n m =
    elim (cases_lt n m) [
      | inl below ↦ lt-ltb (1 + n) (suc m) (omega (arith, below)) ∙ sym (lt-ltb n m below)
      | inr above ↦ le-ltb (1 + n) (suc m) (omega (arith, above)) ∙ sym (le-ltb n m above)
    ]

one_on : (b : Bool) (n : ℕ) → cond b (Some (1 + n)) None ≡ option_map (λ (i : ℕ). 1 + i) (cond b (Some n) None)
one_on true n = refl
one_on false n = refl

pub position-cons_yes : (p : ℕ → Bool) (x : ℕ) (xs : List ℕ) → p x ≡ true → position p (x ∷ xs) ≡ Some 0
position-cons_yes p x xs h = rw (h, lt-ltb 0 (suc (length xs)) (omega arith)) refl

pub position-cons_no : (p : ℕ → Bool) (x : ℕ) (xs : List ℕ) → p x ≡ false
    → position p (x ∷ xs) ≡ option_map (λ (i : ℕ). 1 + i) (position p xs)
position-cons_no p x xs h
    = rw (h, none_lt (position_or_len p xs) (length xs))
    (one_on (ltb (position_or_len p xs) (length xs)) (position_or_len p xs))

-- the place of the first such byte, before which there is none
pub place_found : (at : ℕ) (text : List ℕ) (i : ℕ) → i < length text → ((k : ℕ) → k < i → get_or text k 0 ≡ at → ⊥)
    → get_or text i 0 ≡ at → Some i ≡ position (λ b. b == at) text
place_found at text i lt before here =
    let first : position_or_len (λ b. b == at) text ≡ i
    = position_or_len_is (λ b. b == at) text i 0 (omega (arith, lt))
    (λ k h. ne_eqb (get_or text k 0) at (before k h)) (λ h. eq-eqb (get_or text i 0) at here) in
    sym (rw (first, lt-ltb i (length text) lt) refl)

pub place_none : (at : ℕ) (text : List ℕ) → ((k : ℕ) → k < length text → get_or text k 0 ≡ at → ⊥)
    → None ≡ position (λ b. b == at) text
place_none at text none =
    let past : position_or_len (λ b. b == at) text ≡ length text
    = position_or_len_is (λ b. b == at) text (length text) 0 (omega arith)
    (λ k h. ne_eqb (get_or text k 0) at (none k h)) (λ h. absurd (omega (arith, h))) in
    sym (rw (past, le-ltb (length text) (length text) (omega arith)) refl)

-- what memchr tells is the place of the first such byte
pub first_is_position : (at : ℕ) (text : List ℕ) (r : Option ℕ) → IsFirstByte (is_byte at) text r
    → r ≡ position (λ b. b == at) text
first_is_position at text None none =
    let past : position_or_len (λ b. b == at) text ≡ length text
    = position_or_len_is (λ b. b == at) text (length text) 0 (omega arith)
    (λ k h. false_from_ne_true (get_or text k 0 == at) (none k (omega arith) h)) (λ h. absurd (omega (arith, h))) in
    sym (rw (past, le-ltb (length text) (length text) (omega arith)) refl)
first_is_position at text (Some i) found =
    let first : position_or_len (λ b. b == at) text ≡ i
    = position_or_len_is (λ b. b == at) text i 0 (omega (arith, found.0.high))
    (λ k h. false_from_ne_true (get_or text k 0 == at) (found.0.before k (omega arith) h)) (λ h. found.1) in
    sym (rw (first, lt-ltb i (length text) found.0.high) refl)
