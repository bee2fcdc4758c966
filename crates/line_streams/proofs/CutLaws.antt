-- Where the next line of a block ends.
use Rattle.std.proofs.Common.{◌≡◌, ℕ, ◌+◌, ◌-◌, ◌<◌, ◌≤◌, List, [], ◌∷◌, ◌++◌, length, length-take, get_or, take, drop}
use Rattle.std.proofs.Common.{refl, ap, ◌∙◌, sym, arith, Option, Some, None, get_or-take, eq-eqb}
use Rattle.std.proofs.lemmas.List.{take_more, take_rest, length-drop}
use Rattle.std.proofs.lemmas.Bool.{eqb-true}
use Rattle.memchr.specs.Find.{IsFirstByte, is_byte}
use Rattle.entry_codec.proofs.Pieces.{HasNoEnd}
use Rattle.line_streams.proofs.WriteLaws.{take_both}

-- what memchr says of the bytes from a position on: they go up to a line feed, or have none
pub cut_found : (bytes : List ℕ) (at n : ℕ) → at ≤ length bytes
    → IsFirstByte (is_byte 10) (take (length bytes - at) (drop at bytes)) (Some n)
    → (at + n < length bytes) × HasNoEnd (take n (drop at bytes))
    × (take (at + (n + 1)) bytes ≡ take at bytes ++ (take n (drop at bytes) ++ 10 ∷ []))
cut_found bytes at n within found =
    let s : List ℕ = drop at bytes in
    let here : IsFirstByte (is_byte 10) s (Some n) = rw take_rest at found in
    let high : n < length s = here.0.high in
    let long = length-drop at bytes in
    let end : get_or s n 0 ≡ 10 = eqb-true (get_or s n 0) 10 here.1 in
    let cut : take (n + 1) s ≡ take n s ++ 10 ∷ [] = take_more s n 0 high ∙ ap (λ (b : ℕ). take n s ++ b ∷ []) end in (
      omega arith,
      λ k h e.
          let short : k < n = omega (arith, simp length-take at h) in
          here.0.before k (omega arith) short (eq-eqb (get_or s k 0) 10 (sym (get_or-take n s k 0 short) ∙ e)),
      take_both at (n + 1) bytes ∙ ap (λ (l : List ℕ). take at bytes ++ l) cut,
    )

pub cut_none : (bytes : List ℕ) (at : ℕ) (r : Option ℕ) → ((n : ℕ) → r ≡ Some n → ⊥)
    → IsFirstByte (is_byte 10) (take (length bytes - at) (drop at bytes)) r → HasNoEnd (drop at bytes)
cut_none bytes at (Some n) other found = absurd (other n refl)
cut_none bytes at None other found =
    let s : List ℕ = drop at bytes in
    let here : IsFirstByte (is_byte 10) s None = rw take_rest at found in
    λ k h e. here k (omega arith) h (eq-eqb (get_or s k 0) 10 e)
