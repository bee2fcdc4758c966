-- Of each key its newest entry.
use Rattle.std.proofs.Common.{◌≡◌, ℕ, zero, suc, ◌+◌, ◌≤◌, Bool, true, false, cond, List, [], ◌∷◌, take, map, None}
use Rattle.std.proofs.Common.{refl, sym, ap, ◌∙◌, subst, arith}
use Rattle.std.specs.Prelude.{not}
use Rattle.std.specs.Map.{lookup}
use Rattle.std.specs.Str.{bytes_eq}
use Rattle.std.specs.Cmp.Lexicographic.{bytes_decides}
use Rattle.std.specs.List.{All}
use Rattle.std.proofs.lemmas.List.{take-take, take-map}
use Rattle.std.proofs.lemmas.List.Elements.{All-nil, All-cons, All-head, All-tail, All-take, All-filter}
use Rattle.command_keys.specs.Last.{newest_of, without, distinct, last_of}
use Rattle.command_keys.proofs.Lookups.{hits, hits-cons, none_hit}

module _ {V : Type 0} where
  without_cons : (q : List ℕ) (e : List ℕ × V) (es : List (List ℕ × V)) (b : Bool) → bytes_eq q e.0 ≡ b
      → without q (e ∷ es) ≡ cond (not b) (e ∷ without q es) (without q es)
  without_cons q e es b is = ap (λ (c : Bool). cond (not c) (e ∷ without q es) (without q es)) is

  hits_by : (q : List ℕ) (e : List ℕ × V) (es : List (List ℕ × V)) (b : Bool) → bytes_eq q e.0 ≡ b
      → hits (bytes_eq q) (e ∷ es) ≡ cond b 1 0 + hits (bytes_eq q) es
  hits_by q e es b is = hits-cons (bytes_eq q) e es ∙ ap (λ (c : Bool). cond c 1 0 + hits (bytes_eq q) es) is

  -- a key that does not occur is not taken out
  by_none : (q : List ℕ) (e : List ℕ × V) (es : List (List ℕ × V)) (b : Bool) → bytes_eq q e.0 ≡ b
      → hits (bytes_eq q) (e ∷ es) ≡ 0 → (hits (bytes_eq q) es ≡ 0 → without q es ≡ es) → without q (e ∷ es) ≡ e ∷ es
  by_none q e es true is none rest = absurd (omega (arith, hits_by q e es true is, none))
  by_none q e es false is none rest =
      without_cons q e es false is ∙ ap (λ xs. e ∷ xs) (rest (omega (arith, hits_by q e es false is, none)))

  pub without_none : (q : List ℕ) (es : List (List ℕ × V)) → hits (bytes_eq q) es ≡ 0 → without q es ≡ es
  without_none q [] none = refl
  without_none q (e ∷ es) none = by_none q e es (bytes_eq q e.0) refl none (without_none q es)

  pub without_absent : (q : List ℕ) (es : List (List ℕ × V)) → lookup (bytes_eq q) es ≡ None → without q es ≡ es
  without_absent q es absent = without_none q es (none_hit (bytes_eq q) es absent)

  -- a key that is taken out does not occur
  by_gone : (q : List ℕ) (e : List ℕ × V) (es : List (List ℕ × V)) (b : Bool) → bytes_eq q e.0 ≡ b
      → hits (bytes_eq q) (without q es) ≡ 0 → hits (bytes_eq q) (without q (e ∷ es)) ≡ 0
  by_gone q e es true is rest = ap (hits (bytes_eq q)) (without_cons q e es true is) ∙ rest
  by_gone q e es false is rest =
      ap (hits (bytes_eq q)) (without_cons q e es false is) ∙ omega (arith, hits_by q e (without q es) false is, rest)

  pub gone : (q : List ℕ) (es : List (List ℕ × V)) → hits (bytes_eq q) (without q es) ≡ 0
  gone q [] = refl
  gone q (e ∷ es) = by_gone q e es (bytes_eq q e.0) refl (gone q es)

  -- and no other key occurs more often
  by_fewer : (q r : List ℕ) (e : List ℕ × V) (es : List (List ℕ × V)) (b : Bool) → bytes_eq q e.0 ≡ b
      → hits (bytes_eq r) (without q es) ≤ hits (bytes_eq r) es
      → hits (bytes_eq r) (without q (e ∷ es)) ≤ hits (bytes_eq r) (e ∷ es)
  by_fewer q r e es true is rest =
      omega (arith, ap (hits (bytes_eq r)) (without_cons q e es true is), hits-cons (bytes_eq r) e es, rest)
  by_fewer q r e es false is rest =
      omega (
        arith,
        ap (hits (bytes_eq r)) (without_cons q e es false is),
        hits-cons (bytes_eq r) e (without q es),
        hits-cons (bytes_eq r) e es,
        rest,
      )

  pub fewer : (q r : List ℕ) (es : List (List ℕ × V)) → hits (bytes_eq r) (without q es) ≤ hits (bytes_eq r) es
  fewer q r [] = omega arith
  fewer q r (e ∷ es) = by_fewer q r e es (bytes_eq q e.0) refl (fewer q r es)

  -- no key occurs twice
  by_once : (r : List ℕ) (e : List ℕ × V) (es : List (List ℕ × V)) (b : Bool) → bytes_eq r e.0 ≡ b
      → hits (bytes_eq r) es ≤ 1 → hits (bytes_eq r) (e ∷ without e.0 es) ≤ 1
  by_once r e es true is once =
      let same : r ≡ e.0 = (bytes_decides r e.0).0 is in
      let none : hits (bytes_eq r) (without e.0 es) ≡ 0
      = subst (λ (k : List ℕ). hits (bytes_eq k) (without e.0 es) ≡ 0) (sym same) (gone e.0 es) in
      omega (arith, hits_by r e (without e.0 es) true is, none)
  by_once r e es false is once =
      omega (arith, hits_by r e (without e.0 es) false is, fewer e.0 r es, once)

  pub put_once : (r : List ℕ) (e : List ℕ × V) (es : List (List ℕ × V)) → hits (bytes_eq r) es ≤ 1
      → hits (bytes_eq r) (e ∷ without e.0 es) ≤ 1
  put_once r e es few = by_once r e es (bytes_eq r e.0) refl few

  pub once : (r : List ℕ) (es : List (List ℕ × V)) → hits (bytes_eq r) (distinct es) ≤ 1
  once r [] = omega arith
  once r (e ∷ es) = put_once r e (distinct es) (once r es)

  -- the first of a list without a key, of which only the first that may be among them are read
  by_cut : (n : ℕ) (q : List ℕ) (e : List ℕ × V) (es : List (List ℕ × V)) (b : Bool) → bytes_eq q e.0 ≡ b
      → hits (bytes_eq q) (e ∷ es) ≤ 1
      → ((m : ℕ) → hits (bytes_eq q) es ≤ 1 → take m (without q (take (suc m) es)) ≡ take m (without q es))
      → take n (without q (e ∷ take n es)) ≡ take n (without q (e ∷ es))
  by_cut n q e es true is few rest =
      let none : hits (bytes_eq q) es ≡ 0 = omega (arith, hits_by q e es true is, few) in
      ap (take n) (without_cons q e (take n es) true is) ∙ ap (take n) (without_none q (take n es) (none_left n es none))
      ∙ take-take n n es (omega arith) ∙ ap (take n) (sym (without_none q es none))
      ∙ ap (take n) (sym (without_cons q e es true is))
    where
      none_left : (n : ℕ) (es : List (List ℕ × V)) → hits (bytes_eq q) es ≡ 0 → hits (bytes_eq q) (take n es) ≡ 0
      none_left zero es none = refl
      none_left (suc n) [] none = refl
      none_left (suc n) (e ∷ es) none =
          let sum = hits-cons (bytes_eq q) e es in
          omega (arith, hits-cons (bytes_eq q) e (take n es), none_left n es (omega (arith, sum, none)), sum, none)
  by_cut zero q e es false is few rest = refl
  by_cut (suc m) q e es false is few rest =
      ap (take (suc m)) (without_cons q e (take (suc m) es) false is)
      ∙ ap (λ xs. e ∷ xs) (rest m (omega (arith, hits_by q e es false is, few)))
      ∙ ap (take (suc m)) (sym (without_cons q e es false is))

  cut : (n : ℕ) (q : List ℕ) (es : List (List ℕ × V)) → hits (bytes_eq q) es ≤ 1
      → take n (without q (take (suc n) es)) ≡ take n (without q es)
  cut n q [] few = refl
  cut n q (e ∷ es) few = by_cut n q e es (bytes_eq q e.0) refl few (λ m. cut m q es)

  -- one more that is put
  pub last_put : (cap : ℕ) (e : List ℕ × V) (es : List (List ℕ × V))
      → newest_of cap (e ∷ without e.0 (last_of cap es)) ≡ last_of cap (e ∷ es)
  last_put zero e es = refl
  last_put (suc n) e es = ap (λ xs. e ∷ xs) (cut n e.0 (distinct es) (once e.0 es))

  -- what holds of each that was put holds of the last
  All-distinct : (P : List ℕ × V → Type 0) (es : List (List ℕ × V)) → All P es → All P (distinct es)
  All-distinct P [] h = All-nil P
  All-distinct P (e ∷ es) h =
      All-cons P e (without e.0 (distinct es)) (All-head P e es h)
      (All-filter (λ (f : List ℕ × V). not (bytes_eq e.0 f.0)) P (distinct es) (All-distinct P es (All-tail P e es h)))

  pub All-last_of : (P : List ℕ × V → Type 0) (cap : ℕ) (es : List (List ℕ × V)) → All P es → All P (last_of cap es)
  All-last_of P cap es h = All-take P cap (distinct es) (All-distinct P es h)

-- keys with other values
module _ {V W : Type 0} (f : V → W) where
  abbrev valued : List ℕ × V → List ℕ × W
  valued e = (e.0, f e.1)

  map_by : (e : List ℕ × V) (es : List (List ℕ × V)) (fs : List (List ℕ × W)) (b : Bool) → map valued es ≡ fs
      → map valued (cond b (e ∷ es) es) ≡ cond b (valued e ∷ fs) fs
  map_by e es fs true same = ap (λ xs. valued e ∷ xs) same
  map_by e es fs false same = same

  pub map-without : (q : List ℕ) (es : List (List ℕ × V)) → map valued (without q es) ≡ without q (map valued es)
  map-without q [] = refl
  map-without q (e ∷ es) =
      map_by e (without q es) (without q (map valued es)) (not (bytes_eq q e.0)) (map-without q es)

  map-distinct : (es : List (List ℕ × V)) → map valued (distinct es) ≡ distinct (map valued es)
  map-distinct [] = refl
  map-distinct (e ∷ es) =
      ap (λ xs. valued e ∷ xs) (map-without e.0 (distinct es) ∙ ap (without e.0) (map-distinct es))

  pub map-last_of : (cap : ℕ) (es : List (List ℕ × V)) → map valued (last_of cap es) ≡ last_of cap (map valued es)
  map-last_of cap es = sym (take-map valued cap (distinct es)) ∙ ap (take cap) (map-distinct es)
