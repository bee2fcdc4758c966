-- Laws of a log and the prefix of it that was delivered.
use Rattle.std.proofs.Common.{◌≡◌, ℕ, ◌<◌, ◌≤◌, Bool, true, false, List, [], ◌∷◌, ◌++◌, inl, inr, arith, refl, sym, ap}
use Rattle.std.proofs.Common.{◌∙◌, subst}
use Rattle.std.specs.List.{All, Contains}
use Rattle.std.proofs.lemmas.Bool.{cases_lt}
use Rattle.std.proofs.lemmas.List.{append_assoc}
use Rattle.std.proofs.lemmas.List.Elements.{Contains-append_cases, Contains-append_right}
use Rattle.rights_types.specs.Entries.{EntryValue, own, closes}
use Rattle.rights_types.specs.Chains.{end, is_closed, ChainFrom, IsChain, IsPrefix, IsLongest, HeadNotIn}
use Rattle.rights_types.proofs.Chains.{not_in_nil, contains_cases, prefix_chain, chain_right, prev_above, before_end}
use Rattle.rights_types.proofs.Chains.{not_before, next_entry}

-- two entries of a chain that begin at the same number are equal
pub same_entry : (o : ℕ) (b : Bool) (n : ℕ) (es : List EntryValue) (e f : EntryValue) → ChainFrom o b n es
    → Contains es e → Contains es f → e.prev ≡ f.prev → e ≡ f
same_entry o b n [] e f c h k q = absurd (not_in_nil e h)
same_entry o b n (x ∷ xs) e f c h k q =
    let later : (y : EntryValue) → Contains xs y → x.prev < y.prev
    = λ y i. omega (arith, c.3.some, prev_above o (closes x) (own x) xs y c.4 i) in
    elim (contains_cases x xs e h) [
      | inl p ↦ elim (contains_cases x xs f k) [
        | inl r ↦ sym p ∙ r
        | inr r ↦ let at : x.prev ≡ e.prev = ap (λ (y : EntryValue). y.prev) p in absurd (omega (arith, later f r))
      ]
      | inr p ↦ elim (contains_cases x xs f k) [
        | inl r ↦ let at : x.prev ≡ f.prev = ap (λ (y : EntryValue). y.prev) r in absurd (omega (arith, later e p))
        | inr r ↦ same_entry o (closes x) (own x) xs e f c.4 p r q
      ]
    ]

-- an entry of the log that begins before the end of a prefix is in it; any other is not
pub in_front : (o : ℕ) (es put : List EntryValue) (e : EntryValue) → IsChain o es → IsPrefix put es → Contains es e
    → e.prev < end put → Contains put e
in_front o es put e c (rest, whole) h lt =
    before_end o put rest e (subst (IsChain o) (sym whole) c) (subst (λ ys. Contains ys e) (sym whole) h) lt

pub not_in_front : (o : ℕ) (es put : List EntryValue) (e : EntryValue) → IsChain o es → IsPrefix put es
    → end put ≤ e.prev → Contains put e → ⊥
not_in_front o es put e c p le h = not_before o put e (prefix_chain o put es p c) le h

pub beyond_front : (o : ℕ) (es put : List EntryValue) (e : EntryValue) → IsChain o es → IsPrefix put es → Contains es e
    → (Contains put e → ⊥) → end put ≤ e.prev
beyond_front o es put e c p h out =
    elim (cases_lt e.prev (end put)) [ inl lt ↦ absurd (out (in_front o es put e c p h lt)) | inr le ↦ le ]

-- the rest of the log after a prefix
rest_chain : (o : ℕ) (es put rest : List EntryValue) → IsChain o es → put ++ rest ≡ es
    → ChainFrom o (is_closed put) (end put) rest
rest_chain o es put rest c whole = chain_right o false 0 put rest (subst (IsChain o) (sym whole) c)

-- an entry of the log that begins at the end of a prefix is the next one
next_is : (o : ℕ) (es put rest : List EntryValue) (e : EntryValue) → IsChain o es → put ++ rest ≡ es → Contains es e
    → e.prev ≡ end put → (more : List EntryValue) × (e ∷ more ≡ rest)
next_is o es put rest e c whole h at =
    let among : Contains (put ++ rest) e = subst (λ ys. Contains ys e) (sym whole) h in
    elim (Contains-append_cases put rest e among) [
      | inl p ↦ absurd (not_in_front o es put e c (rest, whole) (omega arith) p)
      | inr p ↦ next_entry o (is_closed put) (end put) rest e (rest_chain o es put rest c whole) p at
    ]

pub longer : (o : ℕ) (es put : List EntryValue) (e : EntryValue) → IsChain o es → IsPrefix put es → Contains es e
    → e.prev ≡ end put → IsPrefix (put ++ e ∷ []) es
longer o es put e c (rest, whole) h at =
    let next : (more : List EntryValue) × (e ∷ more ≡ rest) = next_is o es put rest e c whole h at in
    (next.0, append_assoc put (e ∷ []) next.0 ∙ ap (λ ys. put ++ ys) next.1 ∙ whole)

-- nothing comes after a closed prefix
pub closed_whole : (o : ℕ) (es put : List EntryValue) (e : EntryValue) → IsChain o es → IsPrefix put es
    → is_closed put ≡ true → Contains es e → end put ≤ e.prev → ⊥
closed_whole o es put e c (rest, whole) closed h le =
    let among : Contains (put ++ rest) e = subst (λ ys. Contains ys e) (sym whole) h in
    elim (Contains-append_cases put rest e among) [
      | inl p ↦ not_in_front o es put e c (rest, whole) le p
      | inr p ↦ no_rest rest (rest_chain o es put rest c whole) p
    ]
  where
    no_rest : (xs : List EntryValue) → ChainFrom o (is_closed put) (end put) xs → Contains xs e → ⊥
    no_rest [] chain i = not_in_nil e i
    no_rest (x ∷ xs) chain i = let wrong : true ≡ false = sym closed ∙ chain.0 in cc

-- ---- the longest prefix

-- an entry of the set that begins at the end of the longest prefix would make it longer
pub longest_stops : (o : ℕ) (es set put : List EntryValue) (e : EntryValue) → IsChain o es → IsLongest set es put
    → Contains es e → Contains set e → e.prev ≡ end put → ⊥
longest_stops o es set put e c long h came at
    = stops long.rest long.no_longer (next_is o es put long.rest e c long.whole h at)
  where
    stops : (rest : List EntryValue) → HeadNotIn set rest → (more : List EntryValue) × (e ∷ more ≡ rest) → ⊥
    stops [] none (more, is) = absurd cc
    stops (x ∷ xs) none (more, is) = let same : e ≡ x = cc in none (subst (Contains set) same came)

-- a prefix of entries in the set is the longest one if no entry of the set is next
pub is_longest : (o : ℕ) (es set put : List EntryValue) → IsChain o es → IsPrefix put es → All (Contains set) put
    → ((x : EntryValue) → Contains es x → Contains set x → x.prev ≡ end put → ⊥) → IsLongest set es put
is_longest o es set put c (rest, whole) came none
    = record { rest = rest; whole = whole; inside = came; no_longer = stops rest whole }
  where
    stops : (xs : List EntryValue) → put ++ xs ≡ es → HeadNotIn set xs
    stops [] is = tt
    stops (x ∷ xs) is = λ i.
        none x (subst (λ ys. Contains ys x) is (Contains-append_right put (x ∷ xs) x (0, omega arith, refl))) i
        (rest_chain o es put (x ∷ xs) c is).2

pub longest_prefix : (es set put : List EntryValue) → IsLongest set es put → IsPrefix put es
longest_prefix es set put long = (long.rest, long.whole)
