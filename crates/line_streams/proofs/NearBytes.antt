-- The lowest bit of the mask of 32 bytes is the first place whose byte passes a test.
use Rattle.std.proofs.Common.{◌≡◌, ℕ, ◌^◌, ◌<◌, ◌≤◌, List, Some, get_or, length, take, map, Bool, true, not, w64}
use Rattle.std.proofs.Common.{inl, inr, sym, ap, ◌∙◌, subst, arith}
use Rattle.std.proofs.lemmas.Bool.{cases_lt, false≢true}
use Rattle.std.proofs.lemmas.List.{length-map}
use Rattle.std.proofs.lemmas.Nat.Bits.{bit_at-trailing_zeros}
use Rattle.std.proofs.lemmas.Simd.{length-chunk, mask_l-lt, run_in_chunk_fails, run_in_chunk_le, run_in_chunk_stops}
use Rattle.std.proofs.lemmas.Simd.{trailing_mask_l}
use Rattle.std.specs.Int.{bit_at}
use Rattle.std.specs.List.{prefix_len}
use Rattle.memchr.specs.Find.{IsFirstByte}
use lib.Count.{count_trailing_zeros}
use lib.Lanes.{chunk, mask_l}

module _ (p : ℕ → Bool) (xs : List ℕ) (room : 32 ≤ length xs) (m : ℕ)
    (mask : m ≡ mask_l (map p (take 32 xs))) (some : 0 < m) where
  abbrev first : ℕ
  first = count_trailing_zeros 64 m

  long : length (chunk 0 32 xs) ≡ 32
  long = length-chunk 0 32 xs room

  counted : first ≡ prefix_len (λ x. not (p x)) (chunk 0 32 xs)
  counted = ap (count_trailing_zeros 64) mask
      ∙ trailing_mask_l p 64 (chunk 0 32 xs) (omega (arith, long)) (omega (arith, mask, some))

  small : m < 4294967296
  small = omega (arith, mask, ap (λ n. 2 ^ n) (length-map (chunk 0 32 xs) p ∙ long), mask_l-lt (map p (chunk 0 32 xs)))

  near : first < 32
  near =
      elim (cases_lt first 32) [
        | inl lt ↦ lt
        | inr ge ↦
            let end : first ≡ 32 = omega (arith, ge, run_in_chunk_le p xs 0 32 first 0 room counted) in
            let set : bit_at m 32 ≡ 1
            = subst (λ i. bit_at m i ≡ 1) end (bit_at-trailing_zeros w64 m some (omega (arith, small))).1 in
            absurd (omega (arith, set, small))
      ]

  pub first_near : IsFirstByte p xs (Some first)
  first_near = (
    record {
      low = omega arith;
      high = omega (arith, near, room);
      before = λ k low high passes.
          let fails = run_in_chunk_fails p xs 0 32 first 0 room counted k low (omega (arith, high)) in
          absurd (false≢true (sym fails ∙ passes));
    },
    subst (λ i. p (get_or xs i 0) ≡ true) (omega arith) (run_in_chunk_stops p xs 0 32 first 0 room counted near),
  )
