-- Laws of the entries that reclaim.
use Rattle.std.proofs.Common.{◌≡◌, ◌≢◌, ℕ, ◌+◌, ◌≤◌, ◌⊎◌, inl, inr, Bool, true, false, cond, eqb, leb, List, [], ◌∷◌}
use Rattle.std.proofs.Common.{◌++◌, Option, Some, arith, refl, sym, ap, ◌∙◌}
use Rattle.std.specs.Prelude.{map}
use Rattle.std.specs.List.{list_any, filter}
use Rattle.std.proofs.lemmas.Bool.{cases_Bool, cases_eq, eq-eqb, le-leb, ne_eqb, or_parts}
use Rattle.std.proofs.lemmas.List.{append-nil, map-append}
use Rattle.std.proofs.lemmas.List.Elements.{filter-append}
use Rattle.rights_types.specs.Entries.{EntryValue}
use Rattle.rights_types.specs.Chains.{moves_of}
use Rattle.rights_types.specs.Moves.{take_back_from}
use Rattle.rights_types.specs.Rights.{to, back}
use Rattle.rights_types.specs.declared.moves.Move.{Move}
use Rattle.rights_types.specs.declared.moves.Move.TheVariants.{Issue, Spend, Grant, Give, Close, CloseAt, TakeBack}
use Rattle.rights_types.proofs.Sums.{moves_of-nil, back-append, back-nil, back-cons, back-one}
use Rattle.rights_protocol.specs.Retiring.{beyond, owed, entry_at_end, one_taking, takes_from, takings}
use Rattle.rights_protocol.proofs.Frontiers.{owed_push}

abbrev moves_in : EntryValue → List Move
moves_in e = e.moves

abbrev takes_one : ℕ → EntryValue → Bool
takes_one c e = list_any (takes_from c) e.moves

-- ---- one more entry

takings_split : (c : ℕ) (xs ys : List EntryValue) → takings c (xs ++ ys) ≡ takings c xs ++ takings c ys
takings_split c xs ys =
    ap (map moves_in) (filter-append (takes_one c) xs ys)
    ∙ map-append moves_in (filter (takes_one c) xs) (filter (takes_one c) ys)

takings_last : (c : ℕ) (es : List EntryValue) (e : EntryValue) → takes_one c e ≡ false
    → takings c (es ++ e ∷ []) ≡ takings c es
takings_last c es e none =
    let last : takings c (e ∷ []) ≡ [] = rw none refl in
    takings_split c es (e ∷ []) ∙ ap (λ (xs : List (List Move)). takings c es ++ xs) last ∙ append-nil (takings c es)

-- an entry that reclaims nothing from c, and gives it nothing if a frontier of c was applied
pub taken_push : (s c : ℕ) (es : List EntryValue) (e : EntryValue) (k : Option (List ℕ))
    → list_any (takes_from c) e.moves ≡ false
    → ((numbers : List ℕ) → k ≡ Some numbers → to c e.moves ≡ 0) → takings c es ≡ one_taking c (owed s c es k)
    → takings c (es ++ e ∷ []) ≡ one_taking c (owed s c (es ++ e ∷ []) k)
taken_push s c es e k none given old = takings_last c es e none ∙ old
    ∙ ap (one_taking c) (sym (owed_push s c es e k given))

-- the entry that reclaims what is owed
pub taken_now : (s c n : ℕ) (es : List EntryValue) (e : EntryValue) (k : Option (List ℕ)) → takings c es ≡ []
    → to c e.moves ≡ 0 → list_any (takes_from c) e.moves ≡ true
    → e.moves ∷ [] ≡ one_taking c n → n ≡ owed s c es k
    → takings c (es ++ e ∷ []) ≡ one_taking c (owed s c (es ++ e ∷ []) k)
taken_now s c n es e k none given some one is =
    let last : takings c (e ∷ []) ≡ e.moves ∷ [] = rw some refl in
    takings_split c es (e ∷ []) ∙ ap (λ (xs : List (List Move)). takings c es ++ xs) last
    ∙ ap (λ (xs : List (List Move)). xs ++ e.moves ∷ []) none
    ∙ one ∙ ap (one_taking c) (is ∙ sym (owed_push s c es e k (λ numbers _. given)))

-- ---- where they stand

-- of entries that reclaim nothing from c, those beyond a number reclaim nothing either
pub none_beyond : (c f : ℕ) (es : List EntryValue) → takings c es ≡ [] → takings c (beyond f es) ≡ []
none_beyond c f [] none = refl
none_beyond c f (e ∷ es) none = elim (cases_Bool (takes_one c e)) [
  | inl t ↦ let some : takings c (e ∷ es) ≡ e.moves ∷ takings c es = rw t refl in absurd cc
  | inr t ↦
      let rest : takings c es ≡ [] = (let same : takings c (e ∷ es) ≡ takings c es = rw t refl in sym same ∙ none) in
      elim (leb f e.prev) as (λ b. takings c (cond b (e ∷ beyond f es) (beyond f es)) ≡ []) [
        | true ↦ rw t (none_beyond c f es rest)
        | false ↦ none_beyond c f es rest
      ]
]

beyond_split : (c f : ℕ) (es : List EntryValue) (e : EntryValue)
    → takings c (beyond f (es ++ e ∷ [])) ≡ takings c (beyond f es) ++ takings c (beyond f (e ∷ []))
beyond_split c f es e = ap (takings c) (filter-append (λ (x : EntryValue). leb f x.prev) es (e ∷ []))
    ∙ takings_split c (beyond f es) (beyond f (e ∷ []))

-- one more entry that reclaims nothing from c
pub placed_push : (c f : ℕ) (es : List EntryValue) (e : EntryValue) → list_any (takes_from c) e.moves ≡ false
    → takings c (beyond f es) ≡ takings c es
    → takings c (beyond f (es ++ e ∷ [])) ≡ takings c (es ++ e ∷ [])
placed_push c f es e none old =
    let last : takings c (beyond f (e ∷ [])) ≡ [] = none_beyond c f (e ∷ []) (rw none refl) in
    beyond_split c f es e ∙ ap (λ (xs : List (List Move)). takings c (beyond f es) ++ xs) last
    ∙ append-nil (takings c (beyond f es)) ∙ old
    ∙ sym (takings_last c es e none)

-- the first entry that reclaims from c
pub placed_now : (c f : ℕ) (es : List EntryValue) (e : EntryValue) → takings c es ≡ [] → f ≤ e.prev
    → takings c (beyond f (es ++ e ∷ [])) ≡ takings c (es ++ e ∷ [])
placed_now c f es e none at =
    let here : leb f e.prev ≡ true = le-leb f e.prev at in
    let last : beyond f (e ∷ []) ≡ e ∷ [] = rw here refl in
    let front : takings c (beyond f es) ≡ takings c es = none_beyond c f es none ∙ sym none in
    beyond_split c f es e ∙ ap (λ (xs : List EntryValue). takings c (beyond f es) ++ takings c xs) last
    ∙ ap (λ (xs : List (List Move)). xs ++ takings c (e ∷ [])) front
    ∙ sym (takings_split c es (e ∷ []))

-- ---- what they reclaim

back_split : (c : ℕ) (e : EntryValue) (es : List EntryValue)
    → back c (moves_of (e ∷ es)) ≡ back c e.moves + back c (moves_of es)
unfolding moves_of
back_split c e es = back-append c e.moves (moves_of es)

none_from : (c : ℕ) (m : Move) → takes_from c m ≡ false → take_back_from c m ≡ 0
none_from c (Issue n) h = refl
none_from c (Spend n) h = refl
none_from c (Grant j n a) h = refl
none_from c (Give j n) h = refl
none_from c Close h = refl
none_from c (CloseAt f) h = refl
none_from c (TakeBack j n) h = rw h refl

nothing_back : (c : ℕ) (ms : List Move) → list_any (takes_from c) ms ≡ false → back c ms ≡ 0
nothing_back c [] h = back-nil c
nothing_back c (m ∷ ms) h =
    let p = or_parts (takes_from c m) (list_any (takes_from c) ms) h in
    omega (arith, back-cons c m ms, none_from c m p.0, nothing_back c ms p.1)

-- what these entries reclaim, one after another
back_each : ℕ → List (List Move) → ℕ
back_each c [] = 0
back_each c (ms ∷ rest) = back c ms + back_each c rest

each_taking : (c : ℕ) (es : List EntryValue) → back c (moves_of es) ≡ back_each c (takings c es)
unfolding back_each
each_taking c [] = ap (back c) moves_of-nil ∙ back-nil c
each_taking c (e ∷ es) = elim (cases_Bool (takes_one c e)) [
  | inl t ↦ rw t (omega (arith, back_split c e es, each_taking c es))
  | inr f ↦ rw f (omega (arith, back_split c e es, nothing_back c e.moves f, each_taking c es))
]

pub back_same : (c n : ℕ) → back c (TakeBack c n ∷ []) ≡ n
back_same c n = back-one c c n ∙ (rw (eq-eqb c c refl) refl)

one_gives : (c n : ℕ) → back_each c (one_taking c n) ≡ n
unfolding back_each
one_gives c n = elim (cases_eq n 0) [
  | inl e ↦ let none : eqb n 0 ≡ true = eq-eqb n 0 e in rw none (sym e)
  | inr ne ↦ let some : eqb n 0 ≡ false = ne_eqb n 0 ne in rw some (omega (arith, back_same c n))
]

-- if the entries that reclaim from c reclaim n, then n is reclaimed from c
pub taken_is : (c n : ℕ) (es : List EntryValue) → takings c es ≡ one_taking c n → back c (moves_of es) ≡ n
taken_is c n es h = each_taking c es ∙ ap (back_each c) h ∙ one_gives c n

-- logs with the same reclaims reclaim the same amount
pub same_takings : (c : ℕ) (xs ys : List EntryValue) → takings c xs ≡ takings c ys
    → back c (moves_of xs) ≡ back c (moves_of ys)
same_takings c xs ys same = each_taking c xs ∙ ap (back_each c) same ∙ sym (each_taking c ys)

-- ---- an entry that is written

-- nothing is reclaimed, or by one entry
pub taking_cases : (s o : ℕ) (log : List EntryValue) (n : ℕ)
    → ((n ≡ 0) × (map (entry_at_end s log) (one_taking o n) ≡ []))
    ⊎ ((1 ≤ n) × (map (entry_at_end s log) (one_taking o n) ≡ entry_at_end s log (TakeBack o n ∷ []) ∷ []))
taking_cases s o log n = elim (cases_eq n 0) [
  | inl e ↦ let none : eqb n 0 ≡ true = eq-eqb n 0 e in inl (e, rw none refl)
  | inr ne ↦ let some : eqb n 0 ≡ false = ne_eqb n 0 ne in inr (omega (arith, ne), rw some refl)
]

pub takes_it : (o n : ℕ) → list_any (takes_from o) (TakeBack o n ∷ []) ≡ true
takes_it o n = let here : eqb o o ≡ true = eq-eqb o o refl in rw here refl

pub takes_no_other : (c o n : ℕ) → c ≢ o → list_any (takes_from c) (TakeBack o n ∷ []) ≡ false
takes_no_other c o n ne = let other : eqb o c ≡ false = ne_eqb o c (λ e. ne (sym e)) in rw other refl

pub is_one_taking : (o n : ℕ) → 1 ≤ n → (TakeBack o n ∷ []) ∷ [] ≡ one_taking o n
is_one_taking o n some = let owes : eqb n 0 ≡ false = ne_eqb n 0 (λ e. omega (arith, e)) in rw owes refl
