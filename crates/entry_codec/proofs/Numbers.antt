-- The number that a text spells.
use Rattle.std.proofs.Common.{◌≡◌, ℕ, ◌^◌, ◌<◌, ◌≤◌, Bool, true, ◌&&◌, not, ltb, List, Option, Some, None, refl, sym}
use Rattle.std.proofs.Common.{ap, subst, ◌∙◌, arith, inl, inr}
use Rattle.std.specs.Prelude.{decimal, IfSome}
use Rattle.std.specs.Str.{bytes_eq}
use Rattle.std.specs.Str.Parse.{digits_value}
use Rattle.std.proofs.lemmas.Bool.{ltb-false, le-ltb, and_parts, cases_Bool, not-true}
use Rattle.std.proofs.lemmas.Option.{cond_some}
use Rattle.std.proofs.lemmas.Slice.Eq.{bytes_eq-Decides}
use Rattle.std.proofs.lemmas.Fmt.{decimal_is_IsNumeral, decimal_injective}
use Rattle.entry_codec.specs.Moves.{number_of}

test_parts : (low high : ℕ) (text : List ℕ) (n : ℕ)
    → (bytes_eq text (decimal n) && not (ltb n low) && not (ltb high n)) ≡ true
    → (text ≡ decimal n) × (low ≤ n) × (n ≤ high)
test_parts low high text n h =
    let a = and_parts (bytes_eq text (decimal n) && not (ltb n low)) (not (ltb high n)) h in
    let b = and_parts (bytes_eq text (decimal n)) (not (ltb n low)) a.0 in (
      (bytes_eq-Decides text (decimal n)).0 b.0,
      ltb-false n low (not-true (ltb n low) b.1),
      ltb-false high n (not-true (ltb high n) a.1),
    )

pub number_is : (low high : ℕ) (text : List ℕ) (n : ℕ) → number_of low high text ≡ Some n
    → (text ≡ decimal n) × (low ≤ n) × (n ≤ high)
unfolding number_of
number_is low high text n h =
    let v = digits_value 10 text in
    let found = cond_some (bytes_eq text (decimal v) && not (ltb v low) && not (ltb high v)) v n h in
    subst (λ (m : ℕ). (text ≡ decimal m) × (low ≤ m) × (m ≤ high)) found.1 (test_parts low high text v found.0)

pub number_some : (low high n : ℕ) → n < 2 ^ 64 → low ≤ n → n ≤ high → number_of low high (decimal n) ≡ Some n
unfolding number_of
number_some low high n fits above below =
    let v : digits_value 10 (decimal n) ≡ n = (decimal_is_IsNumeral n fits).1 in
    let same : bytes_eq (decimal n) (decimal n) ≡ true = (bytes_eq-Decides (decimal n) (decimal n)).1 refl in
    rw (v, same, le-ltb n low above, le-ltb high n below) refl

pub number_none : (low high : ℕ) (text : List ℕ) → ((n : ℕ) → text ≡ decimal n → low ≤ n → n ≤ high → ⊥)
    → number_of low high text ≡ None
unfolding number_of
number_none low high text none =
    let v = digits_value 10 text in
    let b : Bool = bytes_eq text (decimal v) && not (ltb v low) && not (ltb high v) in
    elim (cases_Bool b) [
      | inl e ↦ let p = test_parts low high text v e in absurd (none v p.0 p.1 p.2)
      | inr e ↦ rw e refl
    ]

-- what a call that found the number, or none, answers after testing the range
pub found_within : (low high n : ℕ) (text : List ℕ) → n < 2 ^ 64 → text ≡ decimal n → low ≤ n → n ≤ high
    → Some n ≡ number_of low high text
found_within low high n text fits is above below
    = sym (ap (number_of low high) is ∙ number_some low high n fits above below)

pub found_outside : (low high n : ℕ) (text : List ℕ) → n < 2 ^ 64 → high < 2 ^ 64 → text ≡ decimal n
    → (low ≤ n → n ≤ high → ⊥) → None ≡ number_of low high text
found_outside low high n text fits top is out =
    sym (number_none low high text (λ m e above below.
    let same : n ≡ m = decimal_injective n m fits (omega (arith, below, top)) (sym is ∙ e) in
    out (omega (arith, same, above)) (omega (arith, same, below))))

pub found_none : (low high : ℕ) (text : List ℕ) → high < 2 ^ 64 → ((n : ℕ) → n < 2 ^ 64 → text ≡ decimal n → ⊥)
    → None ≡ number_of low high text
found_none low high text top none
    = sym (number_none low high text (λ n e above below. none n (omega (arith, below, top)) e))

-- what a call that reads a number found
pub is_found : (low high : ℕ) (text : List ℕ) (r : Option ℕ) → r ≡ number_of low high text
    → IfSome r (λ n. (low ≤ n) × (n ≤ high) × (text ≡ decimal n))
is_found low high text None h = tt
is_found low high text (Some n) h = let p = number_is low high text n (sym h) in (p.1, p.2, p.0)

pub is_only : (low high : ℕ) (text : List ℕ) (r : Option ℕ) → high < 2 ^ 64 → r ≡ number_of low high text → (n : ℕ)
    → low ≤ n → n ≤ high → text ≡ decimal n → r ≡ Some n
is_only low high text r top h n above below e = h ∙ ap (number_of low high) e
    ∙ number_some low high n (omega (arith, below, top)) above below
