-- Laws of frontiers, of what lies beyond them and of what is owed by them.
use Rattle.std.proofs.Common.{◌≡◌, ℕ, ◌+◌, ◌-◌, ◌≤◌, inl, inr, Bool, true, false, cond, leb, List, [], ◌∷◌, ◌++◌}
use Rattle.std.proofs.Common.{length, Option, Some, None, arith, refl, ap, ◌∙◌}
use Rattle.std.specs.List.{list_any, slice_get}
use Rattle.std.proofs.lemmas.Bool.{cases_Bool, cases_lt, le-leb, lt-leb}
use Rattle.std.proofs.lemmas.List.Elements.{filter-append}
use Rattle.rights_types.specs.Entries.{EntryValue, own, closes}
use Rattle.rights_types.specs.Chains.{end_from, end, closed_from, is_closed, ChainFrom, IsChain, moves_of}
use Rattle.rights_types.specs.Moves.{is_close}
use Rattle.rights_types.specs.Rights.{to}
use Rattle.rights_types.specs.declared.moves.Move.{Move}
use Rattle.rights_types.specs.declared.moves.Move.TheVariants.{Issue, Spend, Grant, Give, Close, CloseAt, TakeBack}
use Rattle.rights_types.proofs.Chains.{end_from-le, end_from-bound, chain_left, chain_right}
use Rattle.rights_types.proofs.Sums.{moves_of-nil, moves_of-append, to-append, to-nil, log-to}
use Rattle.rights_protocol.specs.Retiring.{numbers_in, frontier_from, frontier, beyond, given_beyond, owed}

-- ---- the numbers of a K

open_in : (ms : List Move) → list_any is_close ms ≡ false → numbers_in ms ≡ None
open_in [] h = refl
open_in (Issue n ∷ ms) h = open_in ms h
open_in (Spend n ∷ ms) h = open_in ms h
open_in (Grant j n a ∷ ms) h = open_in ms h
open_in (Give j n ∷ ms) h = open_in ms h
open_in (Close ∷ ms) h = absurd cc
open_in (CloseAt f ∷ ms) h = absurd cc
open_in (TakeBack j n ∷ ms) h = open_in ms h

-- an entry with a frontier closes
pub closes_by : (e : EntryValue) (numbers : List ℕ) → numbers_in e.moves ≡ Some numbers → closes e ≡ true
closes_by e numbers h = elim (cases_Bool (closes e)) [
  | inl t ↦ t
  | inr f ↦ let none = open_in e.moves f in absurd cc
]

open_from : (b : Bool) (k : Option (List ℕ)) (es : List EntryValue) → (b ≡ false → k ≡ None) → closed_from b es ≡ false
    → frontier_from k es ≡ None
open_from b k [] start h = start h
open_from b k (e ∷ es) start h = open_from (closes e) (numbers_in e.moves) es (open_in e.moves) h

-- an open log has no frontier, and a log with a frontier is closed
pub no_frontier : (es : List EntryValue) → is_closed es ≡ false → frontier es ≡ None
no_frontier es h = open_from false None es (λ _. refl) h

pub has_closed : (es : List EntryValue) (numbers : List ℕ) → frontier es ≡ Some numbers → is_closed es ≡ true
has_closed es numbers h = elim (cases_Bool (is_closed es)) [
  | inl t ↦ t
  | inr f ↦ let none = no_frontier es f in absurd cc
]

frontier_from-append : (k : Option (List ℕ)) (xs ys : List EntryValue)
    → frontier_from k (xs ++ ys) ≡ frontier_from (frontier_from k xs) ys
frontier_from-append k [] ys = refl
frontier_from-append k (x ∷ xs) ys = frontier_from-append (numbers_in x.moves) xs ys

pub frontier-push : (es : List EntryValue) (e : EntryValue) → frontier (es ++ e ∷ []) ≡ numbers_in e.moves
frontier-push es e = frontier_from-append None es (e ∷ [])

-- a closed prefix is the whole chain, and one that is followed by an entry is open
pub front_open : (o : ℕ) (xs : List EntryValue) (e : EntryValue) (rest : List EntryValue) → IsChain o (xs ++ e ∷ rest)
    → is_closed xs ≡ false
front_open o xs e rest c = (chain_right o false 0 xs (e ∷ rest) c).0

pub closed_whole : (o : ℕ) (xs rest : List EntryValue) → IsChain o (xs ++ rest) → is_closed xs ≡ true → rest ≡ []
closed_whole o xs [] c h = refl
closed_whole o xs (e ∷ rest) c h = let unclosed = front_open o xs e rest c in absurd cc

-- ---- beyond a number

beyond_all : (o : ℕ) (b : Bool) (n f : ℕ) (es : List EntryValue) → ChainFrom o b n es → f ≤ n → beyond f es ≡ es
beyond_all o b n f [] c h = refl
beyond_all o b n f (e ∷ es) c h =
    let at : leb f e.prev ≡ true = le-leb f e.prev (omega (arith, c.2)) in
    let rest : beyond f es ≡ es = beyond_all o (closes e) (own e) f es c.4 (omega (arith, c.2)) in
    rw at (ap (λ (xs : List EntryValue). e ∷ xs) rest)

beyond_none : (o : ℕ) (b : Bool) (n f : ℕ) (es : List EntryValue) → ChainFrom o b n es → end_from n es ≤ f
    → beyond f es ≡ []
beyond_none o b n f [] c h = refl
beyond_none o b n f (e ∷ es) c h =
    let some : 1 ≤ length e.moves = c.3.some in
    let at : leb f e.prev ≡ false = lt-leb f e.prev (omega (arith, end_from-le o (closes e) (own e) es c.4)) in
    rw at (beyond_none o (closes e) (own e) f es c.4 h)

-- the entries that begin at the end of a prefix, or after it, are those after the prefix
pub beyond_rest : (o : ℕ) (front rest : List EntryValue) → IsChain o (front ++ rest)
    → beyond (end front) (front ++ rest) ≡ rest
beyond_rest o front rest c =
    let f : ℕ = end front in
    filter-append (λ (e : EntryValue). leb f e.prev) front rest
    ∙ ap (λ (xs : List EntryValue). xs ++ beyond f rest)
    (beyond_none o false 0 f front (chain_left o false 0 front rest c) (omega arith))
    ∙ beyond_all o (closed_from false front) (end front) f rest (chain_right o false 0 front rest c) (omega arith)

-- ---- what is owed

pub to_one_more : (c : ℕ) (e : EntryValue) (es : List EntryValue)
    → to c (moves_of (e ∷ es)) ≡ to c e.moves + to c (moves_of es)
unfolding moves_of
to_one_more c e es = to-append c e.moves (moves_of es)

beyond_less : (c f : ℕ) (es : List EntryValue) → to c (moves_of (beyond f es)) ≤ to c (moves_of es)
beyond_less c f [] = omega arith
beyond_less c f (e ∷ es) =
    elim (leb f e.prev) as (λ b. to c (moves_of (cond b (e ∷ beyond f es) (beyond f es))) ≤ to c (moves_of (e ∷ es))) [
      | true ↦ omega (arith, to_one_more c e es, to_one_more c e (beyond f es), beyond_less c f es)
      | false ↦ omega (arith, to_one_more c e es, beyond_less c f es)
    ]

given_less : (c : ℕ) (es : List EntryValue) (f : Option ℕ) → given_beyond c es f ≤ to c (moves_of es)
given_less c es None = omega arith
given_less c es (Some f) = beyond_less c f es

pub owed_less : (s c : ℕ) (es : List EntryValue) (k : Option (List ℕ)) → owed s c es k ≤ to c (moves_of es)
owed_less s c es None = omega arith
owed_less s c es (Some numbers) = given_less c es (slice_get numbers (s - 1))

pub owed_bound : (s c o : ℕ) (es : List EntryValue) (k : Option (List ℕ)) → IsChain o es
    → owed s c es k ≤ 1000000000000000000
owed_bound s c o es k chain =
    let ends : end es ≤ 1000000000 = end_from-bound o false 0 es chain (omega arith) in
    omega (arith, owed_less s c es k, log-to o c es chain, ends)

-- if something is owed by a frontier, the position in it is within the log
pub owed_within : (s c o place : ℕ) (es : List EntryValue) (numbers : List ℕ) → IsChain o es
    → slice_get numbers (s - 1) ≡ Some place → 1 ≤ owed s c es (Some numbers) → place ≤ end es
owed_within s c o place es numbers chain at some = elim (cases_lt (end es) place) [
  | inl past ↦
      let none : beyond place es ≡ [] = beyond_none o false 0 place es chain (omega (arith, past)) in
      let nothing : owed s c es (Some numbers) ≡ 0 = ap (given_beyond c es) at ∙ ap (λ xs. to c (moves_of xs)) none
      ∙ ap (to c) moves_of-nil ∙ to-nil c in
      absurd (omega (arith, some, nothing))
  | inr within ↦ within
]

-- an entry that gives c nothing leaves what is owed by c unchanged
beyond_push : (c f : ℕ) (es : List EntryValue) (e : EntryValue) → to c e.moves ≡ 0
    → to c (moves_of (beyond f (es ++ e ∷ []))) ≡ to c (moves_of (beyond f es))
beyond_push c f es e none =
    let split : to c (moves_of (beyond f (es ++ e ∷ [])))
    ≡ to c (moves_of (beyond f es)) + to c (moves_of (beyond f (e ∷ []))) =
    ap (λ xs. to c (moves_of xs)) (filter-append (λ (x : EntryValue). leb f x.prev) es (e ∷ []))
    ∙ ap (to c) (moves_of-append (beyond f es) (beyond f (e ∷ [])))
    ∙ to-append c (moves_of (beyond f es)) (moves_of (beyond f (e ∷ []))) in
    let nil : to c (moves_of []) ≡ 0 = ap (to c) moves_of-nil ∙ to-nil c in
    let last : to c (moves_of (beyond f (e ∷ []))) ≤ to c (moves_of (e ∷ [])) = beyond_less c f (e ∷ []) in
    omega (arith, split, nil, last, to_one_more c e [], none)

given_push : (c : ℕ) (es : List EntryValue) (e : EntryValue) (f : Option ℕ) → to c e.moves ≡ 0
    → given_beyond c (es ++ e ∷ []) f ≡ given_beyond c es f
given_push c es e None none = refl
given_push c es e (Some f) none = beyond_push c f es e none

pub owed_push : (s c : ℕ) (es : List EntryValue) (e : EntryValue) (k : Option (List ℕ))
    → ((numbers : List ℕ) → k ≡ Some numbers → to c e.moves ≡ 0)
    → owed s c (es ++ e ∷ []) k ≡ owed s c es k
owed_push s c es e None none = refl
owed_push s c es e (Some numbers) none = given_push c es e (slice_get numbers (s - 1)) (none numbers refl)
