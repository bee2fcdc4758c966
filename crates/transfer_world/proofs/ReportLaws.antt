-- The lines of the sites from 1 on.
use Rattle.std.proofs.Common.{◌≡◌, ℕ, ◌+◌, ◌-◌, ◌≤◌, List, [], ◌∷◌, ◌++◌, ap, ◌∙◌, arith, append-nil, append_assoc}
use Rattle.std.specs.List.{flat_map, range_with_len}
use Rattle.std.proofs.lemmas.List.{map-id}
use Rattle.std.proofs.lemmas.List.Concat.{flat_map-append}
use Rattle.std.proofs.lemmas.List.FromFn.{map-range_with_len_more}

range_more : (k : ℕ) → range_with_len 1 (k + 1) ≡ range_with_len 1 k ++ (k + 1) ∷ []
range_more k = let m = map-range_with_len_more (λ (x : ℕ). x) 1 k (k + 1) (omega arith) in rw (map-id, map-id) at m

-- the lines of the sites below n
abbrev pub lines_below : (ℕ → List ℕ) → ℕ → List ℕ
lines_below f n = flat_map f (range_with_len 1 (n - 1))

-- one more site
pub lines_next : (f : ℕ → List ℕ) (n : ℕ) (old now next : List ℕ) → 1 ≤ n → now ≡ old ++ lines_below f n
    → next ≡ now ++ f n → next ≡ old ++ lines_below f (n + 1)
lines_next f n old now next some h e =
    let more : (n + 1) - 1 ≡ (n - 1) + 1 = omega arith in
    let last : (n - 1) + 1 ≡ n = omega arith in
    let lines : lines_below f (n + 1) ≡ lines_below f n ++ f n =
    rw (more, range_more (n - 1), flat_map-append, last)
    (ap (λ (l : List ℕ). lines_below f n ++ l) (append-nil (f n))) in
    e ∙ rw (h, lines) (append_assoc old (lines_below f n) (f n))
