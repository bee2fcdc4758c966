-- Laws of lists, independent of queues.
use Rattle.std.proofs.Common.{◌≡◌, ℕ, suc, ◌+◌, ◌<◌, ◌≤◌, Bool, true, false, not, cond, ◌==◌, List, [], ◌∷◌, ◌++◌}
use Rattle.std.proofs.Common.{length, get_or, take, drop, map, All, filter, count_by, position, Option, Some, None}
use Rattle.std.proofs.Common.{refl, sym, ap, ◌∙◌, subst, arith}
use Rattle.std.specs.List.{position_or_len}
use Rattle.std.specs.Map.{lookup}
use Rattle.std.proofs.Math.Seq.{drop-cons}
use Rattle.std.proofs.lemmas.Bool.{ltb-false}
use Rattle.std.proofs.lemmas.List.{take-append-drop, get_or-take, length-take-le}
use Rattle.std.proofs.lemmas.List.Elements.{All-from_get_or, All-head, All-tail, All-nil, All-cons, filter-append}
use Rattle.std.proofs.lemmas.List.Quantifiers.{position-Some}
use Rattle.std.proofs.lemmas.List.Sums.{sum_by-cons, fails_before_first}

-- an index of a list is an index of an equal list
pub index_in : {X : Type 0} (p : X → Bool) (seen xs : List X) (index : Option ℕ) → seen ≡ xs → index ≡ position p seen
    → position p xs ≡ index
index_in p seen xs index same found = ap (position p) (sym same) ∙ sym found

-- x, at index i, is the first element that passes a test
pub record IsFirst {X : Type 0} (p : X → Bool) (xs : List X) (i : ℕ) (x : X) : Type 0 where
  pub within : i < length xs
  pub passes : p x ≡ true
  pub before : All (λ y. p y ≡ false) (take i xs)
  pub parts : xs ≡ take i xs ++ x ∷ drop (suc i) xs

pub first_that : {X : Type 0} (p : X → Bool) (xs : List X) (i : ℕ) (x : X) → position p xs ≡ Some i → x ≡ get_or xs i x
    → IsFirst p xs i x
first_that {X} p xs i x found at =
    let h = position-Some p xs i x found in
    let long : length (take i xs) ≡ i = length-take-le i xs (omega (arith, h.0)) in
    record {
      within = h.0;
      passes = subst (λ (y : X). p y ≡ true) (sym at) h.1;
      before = All-from_get_or (λ y. p y ≡ false) (take i xs) x
          (λ k lt. let le : k < i = omega (arith, long, lt) in ap p (get_or-take i xs k x le) ∙ h.2 k le);
      parts = sym (take-append-drop i xs)
          ∙ ap (λ (ys : List X). take i xs ++ ys) (drop-cons xs i x h.0 ∙ ap (λ (y : X). y ∷ drop (suc i) xs) (sym at));
    }

is_false : (b : Bool) (n : ℕ) → cond b (Some n) None ≡ None → b ≡ false
is_false true n e = cc
is_false false n e = refl

-- if there is no such element, none passes
pub none_passes : {X : Type 0} (p : X → Bool) (xs : List X) → position p xs ≡ None → All (λ y. p y ≡ false) xs
none_passes p xs none k d lt =
    let past : length xs ≤ position_or_len p xs
    = ltb-false (position_or_len p xs) (length xs) (is_false _ (position_or_len p xs) none) in
    fails_before_first p xs k d (omega (arith, past, lt))

-- the first entry with this key has its value
pub lookup_first : {X : Type 0} (t : ℕ) (before : List (ℕ × X)) (e : ℕ × X) (after : List (ℕ × X))
    → All (λ x. (x.0 == t) ≡ false) before → (e.0 == t) ≡ true
    → lookup (λ k. k == t) (before ++ e ∷ after) ≡ Some e.1
lookup_first {X} t [] e after none is = ap (λ (b : Bool). cond b (Some e.1) (lookup (λ k. k == t) after)) is
lookup_first {X} t (x ∷ xs) e after none is =
    ap (λ (b : Bool). cond b (Some x.1) (lookup (λ k. k == t) (xs ++ e ∷ after)))
    (All-head (λ y. (y.0 == t) ≡ false) x xs none)
    ∙ lookup_first t xs e after (All-tail (λ y. (y.0 == t) ≡ false) x xs none) is

-- no entry has this key
pub lookup_none : {X : Type 0} (t : ℕ) (es : List (ℕ × X)) → All (λ x. (x.0 == t) ≡ false) es
    → lookup (λ k. k == t) es ≡ None
lookup_none {X} t [] none = refl
lookup_none {X} t (x ∷ xs) none =
    ap (λ (b : Bool). cond b (Some x.1) (lookup (λ k. k == t) xs)) (All-head (λ y. (y.0 == t) ≡ false) x xs none)
    ∙ lookup_none t xs (All-tail (λ y. (y.0 == t) ≡ false) x xs none)

-- removing a key that no entry has leaves a list unchanged
pub others_stay : {X : Type 0} (t : ℕ) (es : List (ℕ × X)) → All (λ x. (x.0 == t) ≡ false) es
    → filter (λ x. not (x.0 == t)) es ≡ es
others_stay {X} t [] none = refl
others_stay {X} t (x ∷ xs) none =
    ap (λ (b : Bool). cond (not b) (x ∷ filter (λ (y : ℕ × X). not (y.0 == t)) xs)
    (filter (λ (y : ℕ × X). not (y.0 == t)) xs)) (All-head (λ y. (y.0 == t) ≡ false) x xs none)
    ∙ ap (λ (ys : List (ℕ × X)). x ∷ ys) (others_stay t xs (All-tail (λ y. (y.0 == t) ≡ false) x xs none))

is_off : (b : Bool) (n : ℕ) → cond b 1 0 + n ≡ 0 → b ≡ false
is_off true n e = absurd (omega arith)
is_off false n e = refl

-- if a key is not among the keys, no element has it
pub not_among : {X : Type 0} (key : X → ℕ) (t : ℕ) (xs : List X) → count_by (λ k. k == t) (map key xs) ≡ 0
    → All (λ x. (key x == t) ≡ false) xs
not_among {X} key t [] none = All-nil (λ y. (key y == t) ≡ false)
not_among {X} key t (x ∷ xs) none =
    let keys : List ℕ = map key xs in
    let sum = sum_by-cons (λ k. cond (k == t) 1 0) (key x) keys in
    let here : (key x == t) ≡ false = is_off _ (count_by (λ k. k == t) keys) (sym sum ∙ none) in
    let rest : count_by (λ k. k == t) keys ≡ 0 = omega (arith, sum, none) in
    All-cons (λ y. (key y == t) ≡ false) x xs here (not_among key t xs rest)

-- without the one entry with this key
pub others_than : {X : Type 0} (t : ℕ) (before : List (ℕ × X)) (e : ℕ × X) (after : List (ℕ × X))
    → All (λ x. (x.0 == t) ≡ false) before → (e.0 == t) ≡ true
    → All (λ x. (x.0 == t) ≡ false) after → filter (λ x. not (x.0 == t)) (before ++ e ∷ after) ≡ before ++ after
others_than {X} t before e after first is last =
    let keep : ℕ × X → Bool = λ x. not (x.0 == t) in
    filter-append keep before (e ∷ after)
    ∙ ap (λ (b : Bool). filter keep before ++ cond (not b) (e ∷ filter keep after) (filter keep after)) is
    ∙ ap (λ (ys : List (ℕ × X)). ys ++ filter keep after) (others_stay t before first)
    ∙ ap (λ (ys : List (ℕ × X)). before ++ ys) (others_stay t after last)
