-- Sums over the sites 1 to n.
use Rattle.std.proofs.Common.{◌≡◌, ◌≢◌, ℕ, suc, zero, ◌+◌, ◌*◌, ◌<◌, ◌≤◌, inl, inr, arith, refl, sym, eqb, cond}
use Rattle.std.proofs.Common.{add-one}
use Rattle.std.proofs.lemmas.Bool.{eq-eqb, ne_eqb, cases_eq}
use Rattle.rights_types.specs.Rights.{sum_sites}

pub sum_same : (n : ℕ) (f g : ℕ → ℕ) → ((k : ℕ) → 1 ≤ k → k ≤ n → f k ≡ g k) → sum_sites n f ≡ sum_sites n g
sum_same zero f g h = refl
sum_same (suc n) f g h = omega (
  arith,
  sum_same n f g (λ k low high. h k low (omega arith)),
  h (suc n) (omega arith) (omega arith),
)

pub sum_add : (n : ℕ) (f g : ℕ → ℕ) → sum_sites n (λ k. f k + g k) ≡ sum_sites n f + sum_sites n g
sum_add zero f g = refl
sum_add (suc n) f g = omega (arith, sum_add n f g)

pub sum_zero : (n : ℕ) → sum_sites n (λ k. 0) ≡ 0
sum_zero zero = refl
sum_zero (suc n) = omega (arith, sum_zero n)

pub sum_swap : (n m : ℕ) (f : ℕ → ℕ → ℕ)
    → sum_sites n (λ a. sum_sites m (λ b. f a b)) ≡ sum_sites m (λ b. sum_sites n (λ a. f a b))
sum_swap zero m f = sym (sum_zero m)
sum_swap (suc n) m f = omega (arith, sum_swap n m f, sum_add m (λ b. sum_sites n (λ a. f a b)) (λ b. f (suc n) b))

-- one site more
pub sum_next : (n : ℕ) (f : ℕ → ℕ) → sum_sites (n + 1) f ≡ sum_sites n f + f (n + 1)
sum_next n f = rw add-one refl

pub sum_le : (n : ℕ) (f g : ℕ → ℕ) → ((k : ℕ) → 1 ≤ k → k ≤ n → f k ≤ g k) → sum_sites n f ≤ sum_sites n g
sum_le zero f g h = omega arith
sum_le (suc n) f g h = omega (
  arith,
  sum_le n f g (λ k low high. h k low (omega arith)),
  h (suc n) (omega arith) (omega arith),
)

-- a term is at most the sum
pub sum_term : (n k : ℕ) (f : ℕ → ℕ) → 1 ≤ k → k ≤ n → f k ≤ sum_sites n f
sum_term zero k f low high = absurd (omega arith)
sum_term (suc n) k f low high =
    elim (cases_eq k (suc n)) [
      | inl e ↦ rw e (omega arith)
      | inr ne ↦ omega (arith, sum_term n k f low (omega arith))
    ]

-- the sum of each term's bound
pub sum_bound : (n m : ℕ) (f : ℕ → ℕ) → ((k : ℕ) → f k ≤ m) → sum_sites n f ≤ n * m
sum_bound zero m f h = omega arith
sum_bound (suc n) m f h =
    let rest : sum_sites n f ≤ n * m = sum_bound n m f h in
    let grows : suc n * m ≡ n * m + m = omega arith in
    omega (arith, rest, grows, h (suc n))

-- one term is 0: a bound from the others
pub sum_bound_but : (n s m : ℕ) (f : ℕ → ℕ) → 1 ≤ s → s ≤ n → f s ≡ 0 → ((k : ℕ) → f k ≤ m) → sum_sites n f + m ≤ n * m
sum_bound_but zero s m f low high none h = absurd (omega arith)
sum_bound_but (suc n) s m f low high none h =
    let grows : suc n * m ≡ n * m + m = omega arith in
    elim (cases_eq s (suc n)) [
      | inl e ↦
          let last : f (suc n) ≡ 0 = rw e at none in
          omega (arith, sum_bound n m f h, grows, last)
      | inr ne ↦ omega (arith, sum_bound_but n s m f low (omega arith) none h, grows, h (suc n))
    ]

-- a sum over fewer sites
pub sum_fewer : (n k : ℕ) (f : ℕ → ℕ) → k ≤ n → sum_sites k f ≤ sum_sites n f
sum_fewer zero k f h = let e : k ≡ 0 = omega arith in rw e (omega arith)
sum_fewer (suc n) k f h =
    elim (cases_eq k (suc n)) [
      | inl e ↦ rw e (omega arith)
      | inr ne ↦ omega (arith, sum_fewer n k f (omega arith))
    ]

-- one term has risen, and so has the sum
pub sum_risen : (n o rise : ℕ) (f g : ℕ → ℕ) → 1 ≤ o → o ≤ n → ((k : ℕ) → k ≢ o → g k ≡ f k) → g o ≡ f o + rise
    → sum_sites n g ≡ sum_sites n f + rise
sum_risen zero o rise f g low high others here = absurd (omega arith)
sum_risen (suc n) o rise f g low high others here =
    elim (cases_eq o (suc n)) [
      | inl e ↦
          let below : sum_sites n g ≡ sum_sites n f = sum_same n g f (λ k low high. others k (omega (arith, e))) in
          let last : g (suc n) ≡ f (suc n) + rise = rw e at here in
          omega (arith, below, last)
      | inr ne ↦ omega (arith, sum_risen n o rise f g low (omega arith) others here, others (suc n) (λ e. ne (sym e)))
    ]

-- only the term of j is not 0
miss : (j s a : ℕ) → j ≢ s → cond (eqb j s) a 0 ≡ 0
miss j s a h = rw (ne_eqb j s h) refl

none_below : (n j a : ℕ) → n < j → sum_sites n (λ s. cond (eqb j s) a 0) ≡ 0
none_below zero j a h = refl
none_below (suc n) j a h = omega (arith, none_below n j a (omega arith), miss j (suc n) a (omega arith))

pub sum_one : (n j a : ℕ) → 1 ≤ j → j ≤ n → sum_sites n (λ s. cond (eqb j s) a 0) ≡ a
sum_one zero j a low high = absurd (omega arith)
sum_one (suc n) j a low high =
    elim (cases_eq j (suc n)) [
      | inl e ↦
          let here : cond (eqb j (suc n)) a 0 ≡ a = rw (eq-eqb j (suc n) e) refl in
          omega (arith, none_below n j a (omega arith), here)
      | inr ne ↦ omega (arith, sum_one n j a low (omega arith), miss j (suc n) a ne)
    ]
