-- The frontier that a site writes, how many sites it knows as closed, and what it received.
use Rattle.std.proofs.Common.{◌≡◌, ℕ, zero, suc, ◌+◌, ◌-◌, ◌<◌, ◌≤◌, Bool, true, false, cond, List, [], ◌∷◌, length}
use Rattle.std.proofs.Common.{Some, arith, refl, ap, ◌∙◌}
use Rattle.std.specs.Prelude.{map}
use Rattle.std.specs.List.{slice_get, range_with_len}
use Rattle.std.proofs.lemmas.List.{length-map}
use Rattle.std.proofs.lemmas.List.Elements.{All-map}
use Rattle.rights_types.specs.Ranges.{IsNumber, IsFrontier}
use Rattle.rights_types.specs.Entries.{EntryValue, closes}
use Rattle.rights_types.specs.Chains.{end, is_closed, IsChain, moves_of, AddsEntry}
use Rattle.rights_types.specs.Rights.{to, received}
use Rattle.rights_types.proofs.Chains.{closed-push, end_from-bound}
use Rattle.rights_types.proofs.SiteSums.{sum_same, sum_bound_but, sum_risen}
use Rattle.rights_types.proofs.Sums.{moves_of-nil, moves_of-push, to-append, to-nil, log-to}
use Rattle.rights_protocol.specs.Lists.{IsSiteOf}
use Rattle.rights_protocol.specs.Retiring.{own_frontier}
use Rattle.rights_protocol.specs.Invariant.{known_closed}

-- ---- a frontier

length-range : (a n : ℕ) → length (range_with_len a n) ≡ n
length-range a zero = refl
length-range a (suc n) = ap (λ k. suc k) (length-range (a + 1) n)

get_range : (f : ℕ → ℕ) (a n i : ℕ) → i < n → slice_get (map f (range_with_len a n)) i ≡ Some (f (a + i))
get_range f a zero i h = absurd (omega arith)
get_range f a (suc n) zero h = let e : a ≡ a + 0 = omega arith in ap (λ k. Some (f k)) e
get_range f a (suc n) (suc i) h =
    let e : (a + 1) + i ≡ a + suc i = omega arith in
    get_range f (a + 1) n i (omega arith) ∙ ap (λ k. Some (f k)) e

map_same : (f g : ℕ → ℕ) → ((x : ℕ) → f x ≡ g x) → (xs : List ℕ) → map f xs ≡ map g xs
map_same f g same [] = refl
map_same f g same (x ∷ xs) = ap (λ y. y ∷ map f xs) (same x) ∙ ap (λ ys. g x ∷ ys) (map_same f g same xs)

-- the frontier's number for a site
pub number_at : (n o : ℕ) (applied : ℕ → List EntryValue) → IsSiteOf n o
    → slice_get (own_frontier n applied) (o - 1) ≡ Some (end (applied o))
number_at n o applied of =
    let e : 1 + (o - 1) ≡ o = omega (arith, of.0) in
    get_range (λ k. end (applied k)) 1 n (o - 1) (omega (arith, of.0, of.1)) ∙ ap (λ k. Some (end (applied k))) e

chain_ends : (o : ℕ) (es : List EntryValue) → IsChain o es → IsNumber (end es)
chain_ends o es c = end_from-bound o false 0 es c (omega arith)

pub is_frontier : (n : ℕ) (applied : ℕ → List EntryValue) → 2 ≤ n → n ≤ 16 → ((o : ℕ) → IsChain o (applied o))
    → IsFrontier (own_frontier n applied)
is_frontier n applied some few chains =
    let f : ℕ → ℕ = λ k. end (applied k) in
    let long : length (own_frontier n applied) ≡ n = length-map (range_with_len 1 n) f ∙ length-range 1 n in
    record {
      some = omega (arith, long);
      few = omega (arith, long);
      each = All-map IsNumber f (range_with_len 1 n) (λ k d h. chain_ends _ (applied _) (chains _));
    }

pub frontier_kept : (n : ℕ) (old new : ℕ → List EntryValue) → ((o : ℕ) → new o ≡ old o)
    → own_frontier n new ≡ own_frontier n old
frontier_kept n old new same
    = map_same (λ k. end (new k)) (λ k. end (old k)) (λ k. ap end (same k)) (range_with_len 1 n)

-- ---- sites known as closed

abbrev closed_one : List EntryValue → ℕ
closed_one es = cond (is_closed es) 1 0

pub known_kept : (n : ℕ) (old new : ℕ → List EntryValue) → ((o : ℕ) → new o ≡ old o)
    → known_closed n new ≡ known_closed n old
known_kept n old new same
    = sum_same n (λ o. closed_one (new o)) (λ o. closed_one (old o)) (λ o low high. ap closed_one (same o))

pub known_risen : (n o : ℕ) (e : EntryValue) (old new : ℕ → List EntryValue) → IsSiteOf n o → is_closed (old o) ≡ false
    → AddsEntry old o e new
    → known_closed n new ≡ known_closed n old + cond (closes e) 1 0
known_risen n o e old new of unclosed step =
    let was : closed_one (old o) ≡ 0 = ap (λ b. cond b 1 0) unclosed in
    let now : closed_one (new o) ≡ cond (closes e) 1 0 = ap closed_one step.there
    ∙ ap (λ b. cond b 1 0) (closed-push false (old o) e) in
    sum_risen n o (cond (closes e) 1 0) (λ k. closed_one (old k)) (λ k. closed_one (new k)) of.0 of.1
    (λ k ne. ap closed_one (step.elsewhere k ne)) (omega (arith, was, now))

one_at_most : (b : Bool) → cond b 1 0 ≤ 1
one_at_most true = omega arith
one_at_most false = omega arith

-- at most all sites but itself
pub known_few : (n s : ℕ) (applied : ℕ → List EntryValue) → IsSiteOf n s → applied s ≡ []
    → known_closed n applied + 1 ≤ n
known_few n s applied of itself =
    omega (
      arith,
      sum_bound_but n s 1 (λ o. closed_one (applied o)) of.0 of.1 (ap closed_one itself)
          (λ o. one_at_most (is_closed (applied o))),
    )

-- ---- what a site received

pub received_kept : (n s : ℕ) (old new : ℕ → List EntryValue) → ((o : ℕ) → new o ≡ old o)
    → received n s new ≡ received n s old
unfolding received
received_kept n s old new same
    = sum_same n (λ o. to s (moves_of (new o))) (λ o. to s (moves_of (old o)))
    (λ o low high. ap (λ es. to s (moves_of es)) (same o))

pub received_risen : (n s o : ℕ) (e : EntryValue) (old new : ℕ → List EntryValue) → IsSiteOf n o → AddsEntry old o e new
    → received n s new ≡ received n s old + to s e.moves
unfolding received
received_risen n s o e old new of step =
    sum_risen n o (to s e.moves) (λ k. to s (moves_of (old k))) (λ k. to s (moves_of (new k))) of.0 of.1
    (λ k ne. ap (λ es. to s (moves_of es)) (step.elsewhere k ne))
    (ap (λ es. to s (moves_of es)) step.there ∙ ap (to s) (moves_of-push (old o) e)
    ∙ to-append s (moves_of (old o)) e.moves)

pub received_bound : (n s : ℕ) (applied : ℕ → List EntryValue) → n ≤ 16 → IsSiteOf n s → applied s ≡ []
    → ((o : ℕ) → IsChain o (applied o)) → received n s applied ≤ 15000000000000000000
unfolding received
received_bound n s applied few of itself chains =
    let each : (o : ℕ) → to s (moves_of (applied o)) ≤ 1000000000000000000
    = λ o. omega (arith, log-to o s (applied o) (chains o), chain_ends o (applied o) (chains o)) in
    let none : to s (moves_of (applied s)) ≡ 0 = ap (λ es. to s (moves_of es)) itself ∙ ap (to s) moves_of-nil
    ∙ to-nil s in
    omega (arith, sum_bound_but n s 1000000000000000000 (λ o. to s (moves_of (applied o))) of.0 of.1 none each)
