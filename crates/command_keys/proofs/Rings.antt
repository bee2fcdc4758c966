-- How a ring changes when a key is put.
use Rattle.std.proofs.Common.{◌≡◌, ℕ, suc, ◌+◌, ◌-◌, ◌<◌, ◌≤◌, List, [], ◌∷◌, ◌++◌, length, get_or, set, take, drop}
use Rattle.std.proofs.Common.{reverse, refl, sym, ap, ◌∙◌, arith, append-nil, add-one, Some, inl, inr}
use Rattle.std.specs.Prelude.{◌⊎◌, slice_get}
use Rattle.std.proofs.lemmas.Option.{slice_get-get_or}
use Rattle.std.proofs.lemmas.Bool.{cases_lt}
use Rattle.std.specs.List.{swap_remove}
use Rattle.std.proofs.Math.Seq.{drop-cons}
use Rattle.std.proofs.lemmas.List.{reverse-append, length-reverse, length-append, length-drop, length-set}
use Rattle.std.proofs.lemmas.List.{take_all, take_at, length-take-le, take_more_set, drop-set-lt, drop_all}
use Rattle.std.proofs.lemmas.List.{set-append_left, get_or_push}
use Rattle.std.proofs.lemmas.List.{length_push, append_assoc}
use Rattle.std.proofs.lemmas.List.{get_or-reverse, get_or-append_right, get_or_append_left, get_or-take, get_or-drop}
use Rattle.command_keys.specs.Last.{newest_of, newest_first, IsRing}

module _ {X : Type 0} where
  -- a new entry at the end of a ring that is not full
  pub put_new : (es : List X) (e : X) (cap : ℕ) → length es < cap
      → newest_first (es ++ e ∷ []) 0 ≡ newest_of cap (e ∷ newest_first es 0)
  put_new es e cap room =
      let long : length (reverse (es ++ [])) ≡ length es = length-reverse (es ++ []) ∙ ap length (append-nil es) in
      ap reverse (append-nil (es ++ e ∷ [])) ∙ reverse-append es (e ∷ [])
      ∙ ap (λ (xs : List X). e ∷ reverse xs) (sym (append-nil es))
      ∙ sym (take_all cap (e ∷ reverse (es ++ [])) (omega (arith, long, room)))

  -- one that is put and then moved to the place of the oldest
  pub replaced : (es : List X) (e d : X) (i : ℕ) → i < length es → swap_remove (es ++ e ∷ []) i d ≡ set es i e
  replaced es e d i within =
      let n = length es in
      let last : length (es ++ e ∷ []) - 1 ≡ n = omega (arith, length_push es e) in
      ap (λ (m : ℕ). take m (set (es ++ e ∷ []) i (get_or (es ++ e ∷ []) m d))) last
      ∙ ap (λ (x : X). take n (set (es ++ e ∷ []) i x)) (get_or_push es e d n refl)
      ∙ ap (λ (xs : List X). take n xs) (set-append_left es (e ∷ []) i e within)
      ∙ take_at (set es i e) (e ∷ []) n (length-set es i e)

  abbrev others : List X → ℕ → List X
  others es i = drop (suc i) es ++ take i es

  at_place : (es : List X) (e : X) (i : ℕ) → i < length es
      → newest_first (set es i e) (i + 1) ≡ e ∷ reverse (others es i)
  at_place es e i within =
      let after : drop (i + 1) (set es i e) ≡ drop (suc i) es
      = drop-set-lt (i + 1) es i e (omega arith) ∙ ap (λ (m : ℕ). drop m es) (add-one i) in
      ap (λ (xs : List X). reverse (xs ++ take (i + 1) (set es i e))) after
      ∙ ap (λ (xs : List X). reverse (drop (suc i) es ++ xs)) (take_more_set es i e within)
      ∙ ap reverse (sym (append_assoc (drop (suc i) es) (take i es) (e ∷ [])))
      ∙ reverse-append (others es i) (e ∷ [])

  at_end : (es : List X) (e : X) (i : ℕ) → i + 1 ≡ length es
      → newest_first (set es i e) 0 ≡ e ∷ reverse (others es i)
  at_end es e i end =
      let long : length (set es i e) ≡ i + 1 = length-set es i e ∙ sym end in
      let none : drop (i + 1) (set es i e) ≡ [] = drop_all (i + 1) (set es i e) (omega (arith, long)) in
      let whole : take (i + 1) (set es i e) ≡ set es i e = take_all (i + 1) (set es i e) (omega (arith, long)) in
      ap reverse (append-nil (set es i e))
      ∙ sym (ap (λ (xs : List X). reverse (xs ++ take (i + 1) (set es i e))) none ∙ ap reverse whole)
      ∙ at_place es e i (omega (arith, end))

  -- the oldest entry of a full ring is forgotten
  forgets : (es : List X) (e d : X) (i : ℕ) → i < length es
      → newest_of (length es) (e ∷ newest_first es i) ≡ e ∷ reverse (others es i)
  forgets es e d i within =
      let n = length es in
      let x : X = get_or es i d in
      let rest : List X = others es i in
      let long : length (reverse rest) ≡ n - 1
      = length-reverse rest ∙ length-append (drop (suc i) es) (take i es)
      ∙ omega (arith, length-drop (suc i) es, length-take-le i es (omega arith), within) in
      let one : n ≡ suc (n - 1) = omega arith in
      ap (λ (m : ℕ). take m (e ∷ newest_first es i)) one
      ∙ ap (λ (xs : List X). e ∷ take (n - 1) (reverse (xs ++ take i es))) (drop-cons es i d within)
      ∙ ap (λ (xs : List X). e ∷ take (n - 1) xs) (reverse-append (x ∷ []) rest)
      ∙ ap (λ (xs : List X). e ∷ xs) (take_at (reverse rest) (x ∷ []) (n - 1) long)

  -- in a full ring, a new entry takes the place of the oldest
  pub put_between : (es : List X) (e : X) (cap i : ℕ) → length es ≡ cap → i < cap
      → newest_first (set es i e) (i + 1) ≡ newest_of cap (e ∷ newest_first es i)
  put_between es e cap i full within =
      let here : i < length es = omega arith in
      at_place es e i here ∙ sym (forgets es e e i here)
      ∙ ap (λ (m : ℕ). newest_of m (e ∷ newest_first es i)) full

  pub put_last : (es : List X) (e : X) (cap i : ℕ) → length es ≡ cap → i + 1 ≡ cap
      → newest_first (set es i e) 0 ≡ newest_of cap (e ∷ newest_first es i)
  put_last es e cap i full end =
      let here : i < length es = omega arith in
      at_end es e i (omega arith) ∙ sym (forgets es e e i here)
      ∙ ap (λ (m : ℕ). newest_of m (e ∷ newest_first es i)) full

  -- ---- by places

  pub length-turned : (es : List X) (oldest : ℕ) → oldest ≤ length es → length (newest_first es oldest) ≡ length es
  length-turned es oldest within =
      length-reverse (drop oldest es ++ take oldest es) ∙ length-append (drop oldest es) (take oldest es)
      ∙ omega (arith, length-drop oldest es, length-take-le oldest es within, within)

  nth_at : (es : List X) (d : X) (oldest place at : ℕ) → oldest ≤ length es → place < length es
      → ((place < oldest) × (at + (place + 1) ≡ oldest)) ⊎ ((oldest ≤ place) × (at + (place + 1) ≡ length es + oldest))
      → slice_get (newest_first es oldest) place ≡ slice_get es at
  nth_at es d oldest place at within there how =
      let n = length es in
      let back : List X = drop oldest es in
      let front : List X = take oldest es in
      let long_back : length back ≡ n - oldest = length-drop oldest es in
      let long : length (back ++ front) ≡ n
      = length-append back front ∙ omega (arith, long_back, length-take-le oldest es within, within) in
      let turned : slice_get (newest_first es oldest) place ≡ Some (get_or (back ++ front) (n - 1 - place) d)
      = slice_get-get_or (newest_first es oldest) place d (omega (arith, there, length-turned es oldest within))
      ∙ ap Some (get_or-reverse (back ++ front) place d (omega (arith, there, long))
      ∙ ap (λ (m : ℕ). get_or (back ++ front) (m - 1 - place) d) long) in
      turned ∙ elim how [
        | inl h ↦ ap Some (get_or-append_right back front (n - oldest) (n - 1 - place) d long_back (omega (arith, h.0, within, there))
            ∙ ap (λ (m : ℕ). get_or front m d) (omega (arith, h.1, h.0, within, there))
            ∙ get_or-take oldest es at d (omega (arith, h.1)))
            ∙ sym (slice_get-get_or es at d (omega (arith, h.1, within)))
        | inr h ↦ ap Some (get_or_append_left back front d (n - 1 - place) (omega (arith, h.0, long_back, within, there))
            ∙ get_or-drop oldest es (n - 1 - place) d
            ∙ ap (λ (m : ℕ). get_or es m d) (omega (arith, h.1, within, there)))
            ∙ sym (slice_get-get_or es at d (omega (arith, h.1, h.0, within, there)))
      ]

  pub nth_turned : (es : List X) (oldest place at : ℕ) → oldest ≤ length es → place < length es
      → ((place < oldest) × (at + (place + 1) ≡ oldest)) ⊎ ((oldest ≤ place) × (at + (place + 1) ≡ length es + oldest))
      → slice_get (newest_first es oldest) place ≡ slice_get es at
  nth_turned [] oldest place at within there how = absurd (omega (arith, there))
  nth_turned (x ∷ es) oldest place at within there how = nth_at (x ∷ es) x oldest place at within there how

  pub oldest_within : (es : List X) (oldest cap : ℕ) → IsRing es oldest cap → oldest ≤ length es
  oldest_within es oldest cap ring =
      elim ring.within [
        | inl none ↦ omega (arith, none)
        | inr below ↦ elim (cases_lt (length es) cap) [
          | inl room ↦ omega (arith, ring.first room)
          | inr full ↦ omega (arith, below, full)
        ]
      ]
