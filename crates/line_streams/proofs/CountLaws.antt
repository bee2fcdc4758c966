-- How many lines end in what was read, and how many reads end none.
use Rattle.std.proofs.Common.{◌≡◌, ℕ, ◌+◌, ◌<◌, ◌≤◌, true, false, cond, eqb, List, [], ◌∷◌, ◌++◌, length, take, drop}
use Rattle.std.proofs.Common.{refl, ap, ◌∙◌, sym, arith, inl, inr, ne_eqb, append-nil, take-append-drop, length-append}
use Rattle.std.proofs.lemmas.Bool.{cases_lt}
use Rattle.std.proofs.lemmas.List.Concat.{flat_map-append}
use Rattle.std.proofs.lemmas.List.Sums.{sum_by-append}
use Rattle.std.proofs.lemmas.List.Elements.{All-nil, All-push}
use Rattle.entry_codec.specs.Pieces.{pieces, unfinished, pieces_after}
use Rattle.entry_codec.proofs.Pieces.{pieces_append, HasNoEnd, no_piece, one_piece}
use Rattle.line_streams.specs.Counting.{ends_none, still, Parted, counts_for}

-- what came before ends no line
length-pieces_after : (front xs : List ℕ) → length (pieces_after front xs) ≡ length (pieces xs)
length-pieces_after front [] = refl
length-pieces_after front (x ∷ xs) =
    elim (eqb x 10) as (λ b. length
    (cond b ((front ++ x ∷ []) ∷ pieces_after [] xs) (pieces_after (front ++ x ∷ []) xs))
    ≡ length (cond b ((x ∷ []) ∷ pieces_after [] xs) (pieces_after (x ∷ []) xs))) [
      | true ↦ refl
      | false ↦ length-pieces_after (front ++ x ∷ []) xs ∙ sym (length-pieces_after (x ∷ []) xs)
    ]

pub lines_both : (xs ys : List ℕ) → length (pieces (xs ++ ys)) ≡ length (pieces xs) + length (pieces ys)
lines_both xs ys =
    ap length (pieces_append [] xs ys) ∙ length-append (pieces xs) (pieces_after (unfinished xs) ys)
    ∙ ap (λ (n : ℕ). length (pieces xs) + n) (length-pieces_after (unfinished xs) ys)

-- one more line ends in the bytes up to the next line feed
pub line_more : (before text all : List ℕ) → HasNoEnd text → all ≡ before ++ (text ++ 10 ∷ [])
    → length (pieces all) ≡ length (pieces before) + 1
line_more before text all none cut =
    ap (λ (l : List ℕ). length (pieces l)) cut ∙ lines_both before (text ++ 10 ∷ [])
    ∙ ap (λ (n : ℕ). length (pieces before) + n) (ap length ((one_piece [] text none).0))

-- no line ends in what is left
pub line_none : (bytes : List ℕ) (at : ℕ) → HasNoEnd (drop at bytes)
    → length (pieces bytes) ≡ length (pieces (take at bytes))
line_none bytes at none =
    let parts = ap (λ (l : List ℕ). length (pieces l)) (take-append-drop at bytes) in
    let rest = ap length ((no_piece [] (drop at bytes) none).0) in
    omega (arith, parts, rest, lines_both (take at bytes) (drop at bytes))

pub line_some : (bytes : List ℕ) (at : ℕ) → length (pieces (take at bytes)) ≤ length (pieces bytes)
line_some bytes at =
    let parts = ap (λ (l : List ℕ). length (pieces l)) (take-append-drop at bytes) in
    omega (arith, parts, lines_both (take at bytes) (drop at bytes))

-- what a read counts as, by the lines that end in it
pub counts_lines : (bytes : List ℕ) → 0 < length (pieces bytes) → counts_for bytes ≡ length (pieces bytes)
counts_lines bytes some =
    let more : eqb (length (pieces bytes)) 0 ≡ false
    = ne_eqb (length (pieces bytes)) 0 (λ none. omega (arith, some, none)) in
    rw more (omega arith)

pub counts_still : (bytes : List ℕ) → length (pieces bytes) ≡ 0 → counts_for bytes ≡ 1
counts_still bytes none = rw none refl

pub counts_some : (bytes : List ℕ) → 1 ≤ counts_for bytes
counts_some bytes = elim (cases_lt 0 (length (pieces bytes))) [
  | inl some ↦ omega (arith, some, counts_lines bytes some)
  | inr none ↦ omega (arith, counts_still bytes (omega (arith, none)))
]

pub counts_within : (bytes : List ℕ) → length (pieces bytes) ≤ counts_for bytes
counts_within bytes = omega arith

pub none_parted : Parted [] []
none_parted = record { whole = refl; some = All-nil (λ (bytes : List ℕ). 0 < length bytes) }

-- one more read
pub parted_more : (chunks : List (List ℕ)) (input bytes : List ℕ) → Parted chunks input → 0 < length bytes
    → Parted (chunks ++ bytes ∷ []) (input ++ bytes)
parted_more chunks input bytes h some = record {
  whole = flat_map-append (λ (l : List ℕ). l) chunks (bytes ∷ []) ∙ ap (λ (l : List ℕ). l ++ (bytes ++ [])) h.whole
      ∙ ap (λ (l : List ℕ). input ++ l) (append-nil bytes);
  some = All-push (λ (l : List ℕ). 0 < length l) chunks bytes h.some some;
}

pub counted_more : (chunks : List (List ℕ)) (input bytes : List ℕ)
    → length (pieces (input ++ bytes)) + still (chunks ++ bytes ∷ []) ≡ (length (pieces input) + still chunks)
    + counts_for bytes
counted_more chunks input bytes =
    omega (arith, lines_both input bytes, sum_by-append (λ l. cond (ends_none l) 1 0) chunks (bytes ∷ []))
