-- Pieces of a stream that arrived in parts, and of a part with no line feed or with one at its end.
use Rattle.std.proofs.Common.{◌≡◌, ◌≢◌, ℕ, suc, ◌<◌, true, false, cond, eqb, List, [], ◌∷◌, ◌++◌, length, get_or, refl}
use Rattle.std.proofs.Common.{ap, ◌∙◌, sym, ne_eqb, arith, append_assoc, append-nil}
use Rattle.entry_codec.specs.Pieces.{pieces_after, rest_after}

-- the pieces of two parts are those of the first and, from its remainder on, those of the second
pub pieces_append : (front xs ys : List ℕ)
    → pieces_after front (xs ++ ys) ≡ pieces_after front xs ++ pieces_after (rest_after front xs) ys
pieces_append front [] ys = refl
pieces_append front (x ∷ xs) ys =
    elim (eqb x 10) as (λ b. cond b ((front ++ x ∷ []) ∷ pieces_after [] (xs ++ ys))
    (pieces_after (front ++ x ∷ []) (xs ++ ys))
    ≡ cond b ((front ++ x ∷ []) ∷ pieces_after [] xs) (pieces_after (front ++ x ∷ []) xs)
    ++ pieces_after (cond b (rest_after [] xs) (rest_after (front ++ x ∷ []) xs)) ys) [
      | true ↦ ap (λ (l : List (List ℕ)). (front ++ x ∷ []) ∷ l) (pieces_append [] xs ys)
      | false ↦ pieces_append (front ++ x ∷ []) xs ys
    ]

pub rest_append : (front xs ys : List ℕ) → rest_after front (xs ++ ys) ≡ rest_after (rest_after front xs) ys
rest_append front [] ys = refl
rest_append front (x ∷ xs) ys =
    elim (eqb x 10) as (λ b. cond b (rest_after [] (xs ++ ys)) (rest_after (front ++ x ∷ []) (xs ++ ys))
    ≡ rest_after (cond b (rest_after [] xs) (rest_after (front ++ x ∷ []) xs)) ys) [
      | true ↦ rest_append [] xs ys
      | false ↦ rest_append (front ++ x ∷ []) xs ys
    ]

-- no byte is a line feed
abbrev pub HasNoEnd : List ℕ → Type 0
HasNoEnd xs = (k : ℕ) → k < length xs → get_or xs k 0 ≢ 10

-- bytes with no line feed end no piece, and all are left
pub no_piece : (front xs : List ℕ) → HasNoEnd xs → (pieces_after front xs ≡ []) × (rest_after front xs ≡ front ++ xs)
no_piece front [] none = (refl, sym (append-nil front))
no_piece front (x ∷ xs) none =
    let other : eqb x 10 ≡ false = ne_eqb x 10 (none 0 (omega arith)) in
    let p = no_piece (front ++ x ∷ []) xs (λ k h. none (suc k) (omega arith)) in
    rw other (p.0, p.1 ∙ append_assoc front (x ∷ []) xs)

-- the bytes up to the first line feed end one piece, and nothing is left
pub one_piece : (front xs : List ℕ) → HasNoEnd xs
    → (pieces_after front (xs ++ 10 ∷ []) ≡ ((front ++ xs) ++ 10 ∷ []) ∷ []) × (rest_after front (xs ++ 10 ∷ []) ≡ [])
one_piece front xs none =
    let p = no_piece front xs none in
    rw (pieces_append, rest_append, p.0, p.1) (refl, refl)
