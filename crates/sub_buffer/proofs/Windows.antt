-- The search for a position among entries in order.
use Rattle.std.proofs.Common.{◌≡◌, ◌≢◌, ℕ, ◌+◌, ◌<◌, ◌≤◌, List, inl, inr, length, get_or, take, arith, sym, subst}
use Rattle.std.specs.List.{All}
use Rattle.std.proofs.lemmas.Bool.{cases_eq, cases_lt}
use Rattle.std.proofs.lemmas.List.{get_or-take, get_or-drop, get_or_read, length-drop, length-take}
use Rattle.rights_types.specs.Entries.{EntryValue}
use Rattle.sub_buffer.specs.Buffers.{HasPrev, InOrder}
use Rattle.sub_buffer.specs.Places.{IsPlace}

-- the position of n is between low and high
pub record IsWindow (n : ℕ) (es : List EntryValue) (low high : ℕ) : Type 0 where
  pub order : low ≤ high
  pub within : high ≤ length es
  pub earlier : (k : ℕ) (d : EntryValue) → k < low → (get_or es k d).prev < n
  pub later : (k : ℕ) (d : EntryValue) → high ≤ k → k < length es → n ≤ (get_or es k d).prev

pub window_whole : (n : ℕ) (es : List EntryValue) (len : ℕ) → len ≡ length es → IsWindow n es 0 len
window_whole n es len is = record {
  order = omega arith;
  within = omega arith;
  earlier = λ k d lt. absurd (omega arith);
  later = λ k d le lt. absurd (omega arith);
}

pub window_up : (n : ℕ) (es : List EntryValue) (low high k : ℕ) (e : EntryValue) → InOrder es → IsWindow n es low high
    → k < high → e ≡ get_or es k e → e.prev < n
    → IsWindow n es (k + 1) high
window_up n es low high k e order window lt is below = record {
  order = omega arith;
  within = window.within;
  earlier = λ i d small.
      let within : k < length es = omega (arith, window.within) in
      let here : (get_or es k d).prev < n
      = subst (λ (y : EntryValue). y.prev < n) (get_or_read es k e within is d) below in
      elim (cases_lt i k) [
        | inl before ↦ omega (arith, here, order i k d before within)
        | inr after ↦ let same : i ≡ k = omega arith in rw same here
      ];
  later = window.later;
}

pub window_down : (n : ℕ) (es : List EntryValue) (low high k : ℕ) (e : EntryValue) → InOrder es → IsWindow n es low high
    → low ≤ k → k < high → e ≡ get_or es k e → n ≤ e.prev
    → IsWindow n es low k
window_down n es low high k e order window le lt is above = record {
  order = le;
  within = omega (arith, window.within);
  earlier = window.earlier;
  later = λ i d from within.
      let inside : k < length es = omega (arith, window.within) in
      let here : n ≤ (get_or es k d).prev
      = subst (λ (y : EntryValue). n ≤ y.prev) (get_or_read es k e inside is d) above in
      elim (cases_lt k i) [
        | inl after ↦ omega (arith, here, order k i d after within)
        | inr before ↦ let same : i ≡ k = omega arith in rw same here
      ];
}

earlier_of : (n : ℕ) (es : List EntryValue) (low high : ℕ) → IsWindow n es low high
    → All (λ e. e.prev < n) (take low es)
earlier_of n es low high window = λ k d lt.
    let small : k < low = omega (arith, length-take low es) in
    subst (λ (y : EntryValue). y.prev < n) (sym (get_or-take low es k d small)) (window.earlier k d small)

-- the window has closed after the last entry
pub place_at_end : (n : ℕ) (es : List EntryValue) (low high : ℕ) → IsWindow n es low high → high ≤ low → length es ≤ low
    → IsPlace n es low
place_at_end n es low high window closed past = record {
  within = omega (arith, window.within, window.order);
  earlier = earlier_of n es low high window;
  later = λ k d lt. absurd (omega (arith, length-drop low es));
}

-- the window has closed before an entry that does not begin at n
pub place_here : (n : ℕ) (es : List EntryValue) (low high : ℕ) (e : EntryValue) → InOrder es → IsWindow n es low high
    → high ≤ low → low < length es → e ≡ get_or es low e → e.prev ≢ n
    → IsPlace n es low
place_here n es low high e order window closed inside is other = record {
  within = omega arith;
  earlier = earlier_of n es low high window;
  later = λ k d lt.
      let within : low + k < length es = omega (arith, length-drop low es) in
      let here : (get_or es low d).prev ≢ n
      = subst (λ (y : EntryValue). y.prev ≢ n) (get_or_read es low e inside is d) other in
      let least : n ≤ (get_or es low d).prev = window.later low d closed inside in
      subst (λ (y : EntryValue). n < y.prev) (sym (get_or-drop low es k d)) (beyond d k within here least);
}
  where
    beyond : (d : EntryValue) (k : ℕ) → low + k < length es → (get_or es low d).prev ≢ n → n ≤ (get_or es low d).prev
        → n < (get_or es (low + k) d).prev
    beyond d k within here least =
        elim (cases_eq k 0) [
          | inl none ↦ let same : low + k ≡ low = omega arith in rw same (omega arith)
          | inr some ↦ omega (arith, here, order low (low + k) d (omega arith) within)
        ]

pub window_found : (n : ℕ) (es : List EntryValue) (low : ℕ) (e : EntryValue) → low < length es → e ≡ get_or es low e
    → e.prev ≡ n → HasPrev n es
window_found n es low e inside is at = (e, (low, inside, sym is), at)
