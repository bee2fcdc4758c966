-- The first line of a body.
use Rattle.std.proofs.Common.{◌≡◌, ◌≢◌, ℕ, suc, ◌+◌, zero, ◌<◌, Bool, true, false, cond, eqb, List, [], ◌∷◌, ◌++◌}
use Rattle.std.proofs.Common.{length, get_or, take, drop, refl, ap, ◌∙◌, sym, arith, length-append, length-take}
use Rattle.std.proofs.Common.{get_or-take, eq-eqb, Some, None}
use Rattle.std.proofs.lemmas.Bool.{eqb-true, true≢false}
use Rattle.std.proofs.lemmas.List.{take_more, take-append-drop}
use Rattle.memchr.specs.Find.{IsFirstByte, is_byte}
use Rattle.entry_codec.specs.Pieces.{pieces_after, rest_after}
use Rattle.entry_codec.proofs.Pieces.{HasNoEnd, pieces_append, rest_append, no_piece, one_piece}
use Rattle.line_streams.specs.Talk.{lines_of, last_line}

-- the text up to the first line feed is the first line
pub line_first : (xs ys : List ℕ) → HasNoEnd xs → lines_of ((xs ++ 10 ∷ []) ++ ys) ≡ (xs ++ 10 ∷ []) ∷ lines_of ys
line_first xs ys none =
    let p = one_piece [] xs none in
    rw (pieces_append [] (xs ++ 10 ∷ []) ys, rest_append [] (xs ++ 10 ∷ []) ys, p.0, p.1) refl

-- what memchr says of a line feed
pub cut_first : (xs : List ℕ) (n : ℕ) → IsFirstByte (is_byte 10) xs (Some n) → (n < length xs) × HasNoEnd (take n xs)
    × (xs ≡ (take n xs ++ 10 ∷ []) ++ drop (n + 1) xs)
cut_first xs n found =
    let high : n < length xs = found.0.high in
    let end : get_or xs n 0 ≡ 10 = eqb-true (get_or xs n 0) 10 found.1 in
    let cut : take (n + 1) xs ≡ take n xs ++ 10 ∷ [] = take_more xs n 0 high
    ∙ ap (λ (b : ℕ). take n xs ++ b ∷ []) end in (
      high,
      λ k h e.
          let short : k < n = omega (arith, simp length-take at h) in
          found.0.before k (omega arith) short (eq-eqb (get_or xs k 0) 10 (sym (get_or-take n xs k 0 short) ∙ e)),
      sym (take-append-drop (n + 1) xs) ∙ ap (λ (l : List ℕ). l ++ drop (n + 1) xs) cut,
    )

pub lines_cut : (xs : List ℕ) (n : ℕ) → IsFirstByte (is_byte 10) xs (Some n)
    → lines_of xs ≡ (take n xs ++ 10 ∷ []) ∷ lines_of (drop (n + 1) xs)
lines_cut xs n found =
    let cut = cut_first xs n found in
    ap lines_of cut.2 ∙ line_first (take n xs) (drop (n + 1) xs) cut.1

-- bytes with no line feed are a line, if there are any
pub lines_uncut : (xs : List ℕ) → 0 < length xs → IsFirstByte (is_byte 10) xs None → lines_of xs ≡ (xs ++ 10 ∷ []) ∷ []
lines_uncut [] some none = absurd (omega arith)
lines_uncut (x ∷ xs) some none =
    let p = no_piece [] (x ∷ xs) (λ k h e. none k (omega arith) h (eq-eqb (get_or (x ∷ xs) k 0) 10 e)) in
    rw (p.0, p.1) refl

-- if there are bytes, there is a line
abbrev lines_after : List ℕ → List ℕ → List (List ℕ)
lines_after front xs = pieces_after front xs ++ last_line (rest_after front xs)

some_after : (front xs : List ℕ) → 0 < length front + length xs → 0 < length (lines_after front xs)
some_after [] [] some = absurd (omega arith)
some_after (f ∷ front) [] some = omega arith
some_after front (x ∷ xs) some =
    elim (eqb x 10) as (λ b. 0 < length
    (cond b ((front ++ x ∷ []) ∷ pieces_after [] xs) (pieces_after (front ++ x ∷ []) xs)
    ++ last_line (cond b (rest_after [] xs) (rest_after (front ++ x ∷ []) xs)))) [
      | true ↦ omega arith
      | false ↦ some_after (front ++ x ∷ []) xs (omega (arith, length-append front (x ∷ [])))
    ]

pub lines_some : (xs : List ℕ) → 0 < length xs → 0 < length (lines_of xs)
lines_some xs some = some_after [] xs (omega arith)

-- if bytes follow it, the first line is not the only one
pub lines_many : (xs rest line : List ℕ) → lines_of xs ≡ line ∷ lines_of rest → 0 < length rest
    → length (lines_of xs) ≢ 1
lines_many xs rest line first some one =
    let more = lines_some rest some in
    let long = ap length first in
    omega arith

pub not_none : (n : ℕ) (b : Bool) → b ≡ eqb n 0 → b ≡ false → 0 < n
not_none zero b is e = absurd (true≢false (sym is ∙ e))
not_none (suc n) b is e = omega arith
