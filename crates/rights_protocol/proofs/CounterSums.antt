-- Sums over all sites but one, and what they are of a counter.
use Rattle.std.proofs.Common.{◌≡◌, ◌≢◌, ℕ, ◌+◌, inl, inr, Bool, true, false, cond, eqb, arith, refl, sym, ◌∙◌}
use Rattle.std.proofs.lemmas.Bool.{cases_eq, eq-eqb, ne_eqb}
use Rattle.rights_types.specs.Rights.{sum_sites}
use Rattle.rights_types.proofs.SiteSums.{sum_same, sum_add, sum_swap, sum_risen, sum_zero}
use Rattle.rights_protocol.specs.Lists.{IsSiteOf}
use Rattle.rights_protocol.specs.BoundedCounter.{Counter, sum_others, incoming, outgoing}

here : (i a : ℕ) → cond (eqb i i) 0 a ≡ 0
here i a = let e : eqb i i ≡ true = eq-eqb i i refl in rw e refl

other : (j i a : ℕ) → j ≢ i → cond (eqb j i) 0 a ≡ a
other j i a ne = rw (ne_eqb j i ne) refl

pub others_same : (n i : ℕ) (f g : ℕ → ℕ) → ((j : ℕ) → IsSiteOf n j → j ≢ i → f j ≡ g j)
    → sum_others n i f ≡ sum_others n i g
others_same n i f g h = sum_same n (λ j. cond (eqb j i) 0 (f j)) (λ j. cond (eqb j i) 0 (g j))
    (λ j low high. elim (cases_eq j i) [
      | inl e ↦ let at : eqb j i ≡ true = eq-eqb j i e in rw at refl
      | inr ne ↦ let at : eqb j i ≡ false = ne_eqb j i ne in rw at (h j (low, high) ne)
    ])

-- one term has risen
pub others_risen : (n i o rise : ℕ) (f g : ℕ → ℕ) → IsSiteOf n o → o ≢ i → ((j : ℕ) → j ≢ i → j ≢ o → g j ≡ f j)
    → g o ≡ f o + rise → sum_others n i g ≡ sum_others n i f + rise
others_risen n i o rise f g site differ same risen =
    sum_risen n o rise (λ j. cond (eqb j i) 0 (f j)) (λ j. cond (eqb j i) 0 (g j)) site.0 site.1
    (λ j ne. elim (cases_eq j i) [
      | inl e ↦ let at : eqb j i ≡ true = eq-eqb j i e in rw at refl
      | inr nh ↦ let at : eqb j i ≡ false = ne_eqb j i nh in rw at (same j nh ne)
    ])
    (let at : eqb o i ≡ false = ne_eqb o i differ in rw at risen)

-- with the term that is left out, it is the whole sum
pub others_and_one : (n i : ℕ) (f : ℕ → ℕ) → IsSiteOf n i → sum_sites n f ≡ sum_others n i f + f i
others_and_one n i f site =
    sum_risen n i (f i) (λ j. cond (eqb j i) 0 (f j)) f site.0 site.1 (λ j ne. sym (other j i (f j) ne))
    (omega (arith, here i (f i)))

pub others_add : (n i : ℕ) (f g : ℕ → ℕ) → sum_others n i (λ j. f j + g j) ≡ sum_others n i f + sum_others n i g
others_add n i f g =
    sum_same n (λ j. cond (eqb j i) 0 (f j + g j)) (λ j. cond (eqb j i) 0 (f j) + cond (eqb j i) 0 (g j))
    (λ j low high. elim (cases_eq j i) [
      | inl e ↦ let at : eqb j i ≡ true = eq-eqb j i e in rw at refl
      | inr ne ↦ let at : eqb j i ≡ false = ne_eqb j i ne in rw at refl
    ])
    ∙ sum_add n (λ j. cond (eqb j i) 0 (f j)) (λ j. cond (eqb j i) 0 (g j))

-- all that comes in went out
pub all_moved : (n : ℕ) (c : Counter) → sum_sites n (incoming n c) ≡ sum_sites n (outgoing n c)
all_moved n c =
    let turned : (i j : ℕ) → cond (eqb j i) 0 (c.R j i) ≡ cond (eqb i j) 0 (c.R j i) = λ i j. elim (cases_eq j i) [
      | inl e ↦
          let there : eqb j i ≡ true = eq-eqb j i e in
          let back : eqb i j ≡ true = eq-eqb i j (sym e) in
          rw (there, back) refl
      | inr ne ↦
          let there : eqb j i ≡ false = ne_eqb j i ne in
          let back : eqb i j ≡ false = ne_eqb i j (λ e. ne (sym e)) in
          rw (there, back) refl
    ] in
    sum_same n (incoming n c) (λ i. sum_sites n (λ j. cond (eqb i j) 0 (c.R j i)))
    (λ i low high. sum_same n (λ j. cond (eqb j i) 0 (c.R j i)) (λ j. cond (eqb i j) 0 (c.R j i)) (λ j a b. turned i j))
    ∙ sum_swap n n (λ i j. cond (eqb i j) 0 (c.R j i))

either : (b : Bool) (a : ℕ) → cond b a a ≡ a
either true a = refl
either false a = refl

pub others_zero : (n i : ℕ) → sum_others n i (λ j. 0) ≡ 0
others_zero n i = sum_same n (λ j. cond (eqb j i) 0 0) (λ j. 0) (λ j low high. either (eqb j i) 0) ∙ sum_zero n
