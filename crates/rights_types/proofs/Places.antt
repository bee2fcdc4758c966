-- Laws of lists with an item for each site.
use Rattle.std.proofs.Common.{◌≡◌, ◌≢◌, ℕ, suc, zero, ◌+◌, ◌<◌, ◌≤◌, ◌⊎◌, inl, inr, List, length, get_or, set}
use Rattle.std.proofs.Common.{replicate, arith, refl, sym, ap, subst, add-one}
use Rattle.std.proofs.lemmas.List.{length-set, get_or-set_same, get_or-set_other, get_or_past, get_or-replicate}
use Rattle.std.proofs.lemmas.List.{length-replicate, set-get_or}
use Rattle.std.proofs.lemmas.Bool.{cases_eq, cases_lt}
use Rattle.rights_types.specs.Places.{at_site, set_site}

-- the item of a site is the one at its index
pub at_site-index : {X : Type 0} (xs : List X) (i s : ℕ) (d : X) → i + 1 ≡ s → at_site xs s d ≡ get_or xs i d
at_site-index xs i s d e = subst (λ k. at_site xs k d ≡ get_or xs i d) e (rw add-one refl)

pub set_site-index : {X : Type 0} (xs : List X) (i s : ℕ) (x : X) → i + 1 ≡ s → set_site xs s x ≡ set xs i x
set_site-index xs i s x e = subst (λ k. set_site xs k x ≡ set xs i x) e (rw add-one refl)

pub length-set_site : {X : Type 0} (xs : List X) (s : ℕ) (x : X) → length (set_site xs s x) ≡ length xs
length-set_site xs zero x = refl
length-set_site xs (suc i) x = length-set xs i x

-- a number above the last site's
pub at_site_past : {X : Type 0} (xs : List X) (s : ℕ) (d : X) → length xs < s → at_site xs s d ≡ d
at_site_past xs zero d h = refl
at_site_past xs (suc i) d h = get_or_past xs i d (omega arith)

-- an item that is written as it was
pub set_site-at_site : {X : Type 0} (xs : List X) (s : ℕ) (d : X) → set_site xs s (at_site xs s d) ≡ xs
set_site-at_site xs zero d = refl
set_site-at_site xs (suc i) d = set-get_or xs i d

-- a list with one item written, read at a site
pub at_set_site : {X : Type 0} (xs : List X) (s k : ℕ) (x d : X) → 1 ≤ s → s ≤ length xs
    → ((k ≡ s) × (at_site (set_site xs s x) k d ≡ x)) ⊎ ((k ≢ s) × (at_site (set_site xs s x) k d ≡ at_site xs k d))
at_set_site xs zero k x d low high = absurd (omega arith)
at_set_site xs (suc i) zero x d low high = inr (omega arith, refl)
at_set_site xs (suc i) (suc j) x d low high =
    elim (cases_eq j i) [
      | inl e ↦ inl (ap (λ n. suc n) e, rw e (get_or-set_same xs i x d (omega arith)))
      | inr n ↦ inr (λ e. n (omega (arith, e)), get_or-set_other xs i j x d n)
    ]

-- what holds of the item of each site holds after a write
pub set_site_keeps : {X : Type 0} (P : ℕ → X → Type 0) (xs : List X) (s : ℕ) (x d : X) → 1 ≤ s → s ≤ length xs
    → ((k : ℕ) → P k (at_site xs k d)) → P s x → (k : ℕ) → P k (at_site (set_site xs s x) k d)
set_site_keeps P xs s x d low high each here k =
    elim (at_set_site xs s k x d low high) [
      | inl p ↦ subst (P k) (sym p.1) (subst (λ j. P j x) (sym p.0) here)
      | inr p ↦ subst (P k) (sym p.1) (each k)
    ]

-- a list of equal items
pub at_site-replicate : {X : Type 0} (P : X → Type 0) (n s : ℕ) (x d : X) → (1 ≤ s → s ≤ n → P x) → P d
    → P (at_site (replicate n x) s d)
at_site-replicate P n zero x d here past = past
at_site-replicate P n (suc i) x d here past =
    elim (cases_lt i n) [
      | inl h ↦ subst P (sym (get_or-replicate n i x d h)) (here (omega arith) (omega arith))
      | inr h ↦ subst P (sym (get_or_past (replicate n x) i d (omega (arith, length-replicate n x)))) past
    ]
