-- The key of an entry, by its number.
use Rattle.std.proofs.Common.{◌≡◌, ◌≢◌, ℕ, zero, suc, ◌+◌, ◌<◌, ◌≤◌, Bool, true, false, cond, List, [], ◌∷◌, length, get_or, take, drop, add-zero}
use Rattle.std.proofs.Common.{All, Some, None, inl, inr, refl, sym, ap, ◌∙◌, arith}
use Rattle.std.specs.Prelude.{find, slice_get, option_map, IfSome, ◌==◌}
use Rattle.std.proofs.lemmas.Bool.{cases_eq, cases_lt, eq-eqb, ne_eqb}
use Rattle.std.proofs.lemmas.List.{get_or-take, get_or-drop, length-take, length-drop}
use Rattle.std.proofs.lemmas.List.Elements.{All-tail, All-filter}
use Rattle.std.specs.Str.{bytes_eq}
use Rattle.std.specs.Prelude.{not}
use Rattle.command_keys.specs.Last.{without}
use Rattle.std.proofs.lemmas.Option.{slice_get_within, slice_get_cases, slice_get-get_or, get_or_from_slice_get}
use Rattle.command_keys.specs.Keys.{AreInOrder, entry_key, key_if}
use Rattle.command_keys.specs.declared.outcome.Written.{Written}

abbrev Row : Type 0
Row = List ℕ × Written

-- ---- the order

pub order_put : (e : Row) (es : List Row) → AreInOrder es → IfSome (slice_get es 0) (λ f. f.1.number ≤ e.1.number)
    → AreInOrder (e ∷ es)
order_put e es order head zero zero none le lt = omega arith
order_put e [] order head zero (suc j) none le lt = absurd (omega (arith, lt))
order_put e (f ∷ es) order head zero (suc j) none le lt
    = omega (arith, head, order 0 j none (omega arith) (omega (arith, lt)))
order_put e es order head (suc i) zero none le lt = absurd (omega (arith, le))
order_put e es order head (suc i) (suc j) none le lt = order i j none (omega (arith, le)) (omega (arith, lt))

pub order_take : (m : ℕ) (es : List Row) → AreInOrder es → AreInOrder (take m es)
order_take m es order i j none le lt =
    rw (
      get_or-take m es i none (omega (arith, le, lt, length-take m es)),
      get_or-take m es j none (omega (arith, lt, length-take m es)),
    ) (order i j none le (omega (arith, lt, length-take m es)))

-- ---- without a key

all_below : (n : ℕ) (es : List Row) → AreInOrder es → IfSome (slice_get es 0) (λ f. f.1.number ≤ n)
    → All (λ (f : Row). f.1.number ≤ n) es
all_below n [] order head k d lt = absurd (omega (arith, lt))
all_below n (f ∷ es) order head k d lt = omega (arith, head, order 0 k d (omega arith) lt)

head_below : (n : ℕ) (es : List Row) → All (λ (f : Row). f.1.number ≤ n) es
    → IfSome (slice_get es 0) (λ f. f.1.number ≤ n)
head_below n [] all = tt
head_below n (f ∷ es) all = all 0 f (omega arith)

pub head_without : (q : List ℕ) (n : ℕ) (es : List Row) → AreInOrder es → IfSome (slice_get es 0) (λ f. f.1.number ≤ n)
    → IfSome (slice_get (without q es) 0) (λ f. f.1.number ≤ n)
head_without q n es order head =
    head_below n (without q es)
    (All-filter (λ (e : Row). not (bytes_eq q e.0)) (λ (f : Row). f.1.number ≤ n) es (all_below n es order head))

order_tail : (e : Row) (es : List Row) → AreInOrder (e ∷ es) → AreInOrder es
order_tail e es order i j none le lt = order (suc i) (suc j) none (omega (arith, le)) (omega (arith, lt))

order_head : (e : Row) (es : List Row) → AreInOrder (e ∷ es) → IfSome (slice_get es 0) (λ f. f.1.number ≤ e.1.number)
order_head e [] order = tt
order_head e (f ∷ es) order = order 0 1 f (omega arith) (omega arith)

order_by : (q : List ℕ) (e : Row) (es : List Row) (b : Bool) → AreInOrder (e ∷ es) → AreInOrder (without q es)
    → AreInOrder (cond (not b) (e ∷ without q es) (without q es))
order_by q e es true order rest = rest
order_by q e es false order rest =
    order_put e (without q es) rest (head_without q e.1.number es (order_tail e es order) (order_head e es order))

pub order_without : (q : List ℕ) (es : List Row) → AreInOrder es → AreInOrder (without q es)
order_without q [] order = order
order_without q (e ∷ es) order = order_by q e es (bytes_eq q e.0) order (order_without q es (order_tail e es order))

-- ---- the search

pub behind_more : (es : List Row) (n m : ℕ) (found : Row) → AreInOrder es → slice_get es m ≡ Some found
    → n < found.1.number → All (λ (e : Row). n < e.1.number) (take (m + 1) es)
behind_more es n m found order is more k d lt =
    let at : get_or es m d ≡ found = get_or_from_slice_get es m found d is in
    let within = slice_get_within es m found is in
    rw (get_or-take (m + 1) es k d (omega (arith, lt, length-take (m + 1) es)))
    (omega (
      arith,
      more,
      ap (λ (e : Row). e.1.number) at,
      order k m d (omega (arith, lt, length-take (m + 1) es)) within,
    ))

pub others_more : (es : List Row) (n m : ℕ) (found : Row) → AreInOrder es → slice_get es m ≡ Some found
    → found.1.number ≤ n → All (λ (e : Row). e.1.number ≤ n) (drop m es)
others_more es n m found order is less k d lt =
    let at : get_or es m d ≡ found = get_or_from_slice_get es m found d is in
    rw (get_or-drop m es k d)
    (omega (
      arith,
      less,
      ap (λ (e : Row). e.1.number) at,
      order m (m + k) d (omega arith) (omega (arith, lt, length-drop m es)),
    ))

-- ---- the first that is found

find_first : (p : Row → Bool) (es : List Row) (i : ℕ) (e : Row) → All (λ e. p e ≡ false) (take i es)
    → slice_get es i ≡ Some e → p e ≡ true → find p es ≡ Some e
find_first p [] i e all is hit = absurd cc
find_first p (x ∷ es) zero e all is hit =
    let same : x ≡ e = cc in
    rw (ap p same ∙ hit) is
find_first p (x ∷ es) (suc i) e all is hit =
    rw (all 0 x (omega arith)) (find_first p es i e (All-tail (λ e. p e ≡ false) x (take i es) all) is hit)

find_none : (p : Row → Bool) (es : List Row) → All (λ e. p e ≡ false) es → find p es ≡ None
find_none p [] all = refl
find_none p (x ∷ es) all = rw (all 0 x (omega arith)) (find_none p es (All-tail (λ e. p e ≡ false) x es all))

abbrev has : ℕ → Row → Bool
has n e = e.1.number == n

others_by : (n : ℕ) (es : List Row) → All (λ (e : Row). e.1.number ≢ n) es → All (λ e. has n e ≡ false) es
others_by n es all k d lt = ne_eqb (get_or es k d).1.number n (all k d lt)

pub key_found : (n : ℕ) (es : List Row) (i : ℕ) (e : Row) → All (λ (e : Row). e.1.number ≢ n) (take i es)
    → slice_get es i ≡ Some e → e.1.number ≡ n → entry_key n es ≡ Some e.0
key_found n es i e all is hit =
    ap (option_map (λ (e : Row). e.0)) (find_first (has n) es i e (others_by n (take i es) all) is
    (eq-eqb e.1.number n hit))

pub no_key : (n : ℕ) (es : List Row) → All (λ (e : Row). e.1.number ≢ n) es → entry_key n es ≡ None
no_key n es all = ap (option_map (λ (e : Row). e.0)) (find_none (has n) es (others_by n es all))

-- ---- whether a key is that of the entry

key_if_hit : (n : ℕ) (e : Row) → e.1.number ≡ n → key_if n (Some e) ≡ Some e.0
key_if_hit n e hit = rw (eq-eqb e.1.number n hit) refl

key_if_other : (n : ℕ) (e : Row) → (e.1.number ≡ n → ⊥) → key_if n (Some e) ≡ None
key_if_other n e other = rw (ne_eqb e.1.number n other) refl

module _ (es : List Row) (n p : ℕ) (order : AreInOrder es) (behind : All (λ (e : Row). n < e.1.number) (take p es))
    (others : All (λ (e : Row). e.1.number ≤ n) (drop p es)) where
  not_before : (k : ℕ) (d : Row) → k < p → k < length es → (get_or es k d).1.number ≡ n → ⊥
  not_before k d before lt same =
      absurd (omega (
        arith,
        same,
        ap (λ (e : Row). e.1.number) (get_or-take p es k d before),
        behind k d (omega (arith, before, lt, length-take p es)),
      ))

  pub key_in_order : key_if n (slice_get es p) ≡ entry_key n es
  key_in_order = elim (slice_get_cases es p).1 [
    | inl here ↦ let e : Row = here.0 in elim (cases_eq e.1.number n) [
      | inl hit ↦ ap (key_if n) here.2 ∙ key_if_hit n e hit
          ∙ sym (key_found n es p e (λ k d lt. λ same. not_before k d (omega (arith, lt, length-take p es))
          (omega (arith, lt, length-take p es))
          (sym (ap (λ (f : Row). f.1.number) (get_or-take p es k d (omega (arith, lt, length-take p es)))) ∙ same)) here.2 hit)
      | inr other ↦ ap (key_if n) here.2 ∙ key_if_other n e other
          ∙ sym (no_key n es (λ k d lt. λ same. elim (cases_lt k p) [
            | inl before ↦ not_before k d before lt same
            | inr after ↦ other (omega (
              arith,
              same,
              order p k d after lt,
              ap (λ (f : Row). f.1.number) (get_or_from_slice_get es p e d here.2),
              ap (λ (f : Row). f.1.number) (get_or-drop p es 0 d ∙ ap (λ (j : ℕ). get_or es j d) (add-zero p)),
              others 0 d (omega (arith, here.1, length-drop p es)),
            ))
          ]))
    ]
    | inr past ↦ ap (key_if n) past.1
        ∙ sym (no_key n es (λ k d lt. not_before k d (omega (arith, lt, past.0)) lt))
  ]

-- ---- one after another

pub none_more : (es : List Row) (n i : ℕ) → All (λ (e : Row). e.1.number ≢ n) (take i es)
    → key_if n (slice_get es i) ≡ None → All (λ (e : Row). e.1.number ≢ n) (take (i + 1) es)
none_more es n i none miss k d lt same =
    let within : k < i + 1 = omega (arith, lt, length-take (i + 1) es) in
    let there : k < length es = omega (arith, lt, length-take (i + 1) es) in
    let is : (get_or es k d).1.number ≡ n
    = sym (ap (λ (e : Row). e.1.number) (get_or-take (i + 1) es k d within)) ∙ same in
    elim (cases_lt k i) [
      | inl before ↦ none k d (omega (arith, before, there, length-take i es))
          (ap (λ (e : Row). e.1.number) (get_or-take i es k d before) ∙ is)
      | inr last ↦ let at : k ≡ i = omega (arith, last, within) in
          absurd (let hit = sym (key_if_hit n (get_or es k d) is)
          ∙ ap (key_if n) (sym (slice_get-get_or es k d there)) ∙ ap (λ (j : ℕ). key_if n (slice_get es j)) at ∙ miss in cc)
    ]

pub first_hit : (es : List Row) (n i : ℕ) (key : List ℕ) → All (λ (e : Row). e.1.number ≢ n) (take i es)
    → key_if n (slice_get es i) ≡ Some key → entry_key n es ≡ Some key
first_hit es n i key none hit = elim (slice_get_cases es i).1 [
  | inl here ↦ let e : Row = here.0 in elim (cases_eq e.1.number n) [
    | inl same ↦ key_found n es i e none here.2 same
        ∙ sym (key_if_hit n e same) ∙ ap (key_if n) (sym here.2) ∙ hit
    | inr other ↦ absurd (let miss = sym (key_if_other n e other) ∙ ap (key_if n) (sym here.2) ∙ hit in cc)
  ]
  | inr past ↦ absurd (let miss = ap (key_if n) (sym past.1) ∙ hit in cc)
]

pub no_gap : (es : List Row) (i : ℕ) → i < length es → slice_get es i ≡ None → ⊥
no_gap es i within none = elim (slice_get_cases es i).1 [
  | inl here ↦ absurd (let both = sym here.2 ∙ none in cc)
  | inr past ↦ absurd (omega (arith, past.0, within))
]
