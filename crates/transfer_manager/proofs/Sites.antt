-- Lists with an item for each site, written from site 1 on, and sums over the first sites.
use Rattle.std.proofs.Common.{◌≡◌, ℕ, suc, ◌+◌, ◌<◌, ◌≤◌, Bool, true, false, cond, eqb, zero, take, inl, inr, List}
use Rattle.std.proofs.Common.{length, set, refl, sym, ap, ◌∙◌, subst, arith}
use Rattle.std.proofs.lemmas.Bool.{cases_eq, ne_eqb}
use Rattle.std.proofs.lemmas.List.{get_or-take}
use Rattle.rights_types.specs.Places.{at_site, set_site}
use Rattle.rights_types.proofs.Places.{set_site-index, at_set_site}
use Rattle.rights_types.proofs.SiteSums.{sum_next, sum_bound}
use Rattle.transfer_manager.specs.Plans.{count_asked}

abbrev one_unless : Bool → ℕ
one_unless b = cond b 0 1

none_or_one : (b : Bool) → one_unless b ≤ 1
none_or_one true = omega arith
none_or_one false = omega arith

-- each site is asked once
pub asks_few : (n : ℕ) (amounts : ℕ → ℕ) → count_asked n amounts ≤ n
asks_few n amounts = let h = sum_bound n 1 (λ j. cond (eqb (amounts j) 0) 0 1) (λ j. none_or_one (eqb (amounts j) 0)) in
    omega (arith, h)

pub asks_more : (n : ℕ) (amounts : ℕ → ℕ) → 1 ≤ amounts (n + 1)
    → count_asked (n + 1) amounts ≡ count_asked n amounts + 1
asks_more n amounts h =
    let one : one_unless (eqb (amounts (n + 1)) 0) ≡ 1 = rw (ne_eqb (amounts (n + 1)) 0 (λ e. omega (arith, e))) refl in
    omega (arith, sum_next n (λ j. cond (eqb (amounts j) 0) 0 1), one)

pub asks_same : (n : ℕ) (amounts : ℕ → ℕ) → amounts (n + 1) ≡ 0 → count_asked (n + 1) amounts ≡ count_asked n amounts
asks_same n amounts h =
    let none : one_unless (eqb (amounts (n + 1)) 0) ≡ 0 = rw h refl in
    omega (arith, sum_next n (λ j. cond (eqb (amounts j) 0) 0 1), none)

-- an item in the prefix of a list
pub at_site-take : {X : Type 0} (n : ℕ) (xs : List X) (j : ℕ) (d : X) → j ≤ n → at_site (take n xs) j d ≡ at_site xs j d
at_site-take n xs zero d h = refl
at_site-take n xs (suc i) d h = get_or-take n xs i d (omega arith)

-- the items of the first n sites were made new by f, and the others are the old ones
pub record IsWritten {X : Type 0} (d : X) (f : ℕ → X → X) (old new : List X) (n : ℕ) : Type 0 where
  pub made : (j : ℕ) → 1 ≤ j → j ≤ n → at_site new j d ≡ f j (at_site old j d)
  pub rest : (j : ℕ) → n < j → at_site new j d ≡ at_site old j d

pub none_written : {X : Type 0} (d : X) (f : ℕ → X → X) (old : List X) → IsWritten d f old old 0
none_written d f old = record { made = λ j low high. absurd (omega arith); rest = λ j h. refl }

-- the next site's item is left as it was
pub next_left : {X : Type 0} (d : X) (f : ℕ → X → X) (old new : List X) (n : ℕ) → IsWritten d f old new n
    → at_site old (n + 1) d ≡ f (n + 1) (at_site old (n + 1) d) → IsWritten d f old new (n + 1)
next_left d f old new n w same = record {
  made = λ j low high.
      elim (cases_eq j (n + 1)) [
        | inl e ↦ subst (λ k. at_site new k d ≡ f k (at_site old k d)) (sym e) (w.rest (n + 1) (omega arith) ∙ same)
        | inr ne ↦ w.made j low (omega arith)
      ];
  rest = λ j h. w.rest j (omega arith);
}

-- the next site's item is written
pub next_written : {X : Type 0} (d : X) (f : ℕ → X → X) (old new : List X) (n : ℕ) (x : X) → IsWritten d f old new n
    → n < length new
    → x ≡ f (n + 1) (at_site old (n + 1) d) → IsWritten d f old (set new n x) (n + 1)
next_written d f old new n x w lt is =
    let e : set_site new (n + 1) x ≡ set new n x = set_site-index new n (n + 1) x refl in record {
      made = λ j low high.
          subst (λ xs. at_site xs j d ≡ f j (at_site old j d)) e
          (elim (at_set_site new (n + 1) j x d (omega arith) (omega arith)) [
            | inl p ↦ p.1 ∙ is ∙ ap (λ k. f k (at_site old k d)) (sym p.0)
            | inr p ↦ p.1 ∙ w.made j low (let ne = p.0 in omega (arith, ne))
          ]);
      rest = λ j h.
          subst (λ xs. at_site xs j d ≡ at_site old j d) e
          (elim (at_set_site new (n + 1) j x d (omega arith) (omega arith)) [
            | inl p ↦ absurd (omega (arith, p.0))
            | inr p ↦ p.1 ∙ w.rest j (omega arith)
          ]);
    }
