-- The first bytes of a line that arrived in parts.
use Rattle.std.proofs.Common.{◌≡◌, ℕ, ◌+◌, ◌-◌, ◌<◌, ◌≤◌, List, [], ◌∷◌, ◌++◌, length, take, refl, sym, ap, ◌∙◌, arith}
use Rattle.std.proofs.Common.{inl, inr, length-take, length-take-le, length-append}
use Rattle.std.proofs.lemmas.Bool.{cases_lt}
use Rattle.std.proofs.lemmas.List.{take_at, drop_at, take_all, take-append-le, nil_from_length, take-take}
use Rattle.rights_types.specs.declared.limits.TheConstants.{MAX_LINE}
use Rattle.line_streams.proofs.WriteLaws.{take_both}

-- what fits after the bytes before
pub take_over : (n : ℕ) (xs ys : List ℕ) → length xs ≤ n → take n (xs ++ ys) ≡ xs ++ take (n - length xs) ys
take_over n xs ys h =
    let parts : length xs + (n - length xs) ≡ n = omega arith in
    ap (λ (k : ℕ). take k (xs ++ ys)) (sym parts) ∙ take_both (length xs) (n - length xs) (xs ++ ys)
    ∙ rw (take_at xs ys (length xs) refl, drop_at xs ys (length xs) refl) refl

pub take_under : (n : ℕ) (xs ys : List ℕ) → length xs ≤ n → length ys ≤ n - length xs → take n (xs ++ ys) ≡ xs ++ ys
take_under n xs ys h k = take_over n xs ys h ∙ ap (λ (l : List ℕ). xs ++ l) (take_all (n - length xs) ys k)

-- what is cut off in between would be cut off at the end
pub carry_more : (n : ℕ) (front text : List ℕ) → take n (take n front ++ text) ≡ take n (front ++ text)
carry_more n front text = elim (cases_lt (length front) n) [
  | inl few ↦ ap (λ (l : List ℕ). take n (l ++ text)) (take_all n front (omega arith))
  | inr many ↦ take_at (take n front) text n (length-take-le n front many) ∙ sym (take-append-le n front text many)
]

pub none_carried : (carry front : List ℕ) → carry ≡ [] → carry ≡ take MAX_LINE front → front ≡ []
none_carried carry front e h =
    let none : length (take MAX_LINE front) ≡ 0 = ap length (sym h ∙ e) in
    nil_from_length front (omega (arith, simp length-take at none))

pub some_carried : (carry front : List ℕ) → 0 < length carry → carry ≡ take MAX_LINE front → 0 < length front
some_carried carry front some h =
    let long = simp length-take at (ap length h) in
    omega (arith, long)

-- the whole line and what was carried of it have the same first bytes
pub carried_whole : (front text carry kept : List ℕ) → carry ≡ take MAX_LINE front
    → kept ≡ take MAX_LINE (carry ++ text) → take MAX_LINE (front ++ text) ≡ take MAX_LINE kept
carried_whole front text carry kept e h =
    sym (ap (take MAX_LINE) (h ∙ ap (λ (l : List ℕ). take MAX_LINE (l ++ text)) e ∙ carry_more MAX_LINE front text)
    ∙ take_twice MAX_LINE (front ++ text)) where
      take_twice : (n : ℕ) (xs : List ℕ) → take n (take n xs) ≡ take n xs
      take_twice n xs = take-take n n xs (omega arith)

-- what is shorter than the longest line was not cut
pub short_whole : (whole text : List ℕ) → take MAX_LINE whole ≡ take MAX_LINE text → length text < MAX_LINE
    → whole ≡ text
short_whole whole text same short =
    let all : take MAX_LINE text ≡ text = take_all MAX_LINE text (omega arith) in
    let long = simp length-take at (ap length (same ∙ all)) in
    sym (take_all MAX_LINE whole (omega (arith, long))) ∙ same ∙ all

pub long_whole : (whole text : List ℕ) → take MAX_LINE whole ≡ take MAX_LINE text → MAX_LINE ≤ length text
    → MAX_LINE < length (whole ++ 10 ∷ [])
long_whole whole text same many =
    let long = simp length-take at (ap length same) in
    omega (arith, long, length-append whole (10 ∷ []))
