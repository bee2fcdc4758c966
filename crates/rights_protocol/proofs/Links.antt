-- Laws of the lists of a link.
use Rattle.std.proofs.Common.{◌≡◌, ◌≢◌, ℕ, ◌+◌, ◌≤◌, ◌⊎◌, inl, inr, false, List, [], ◌∷◌, ◌++◌, length, Some, arith}
use Rattle.std.proofs.Common.{refl, sym, ap, ◌∙◌, subst}
use Rattle.std.specs.List.{All, Contains, slice_get}
use Rattle.std.proofs.lemmas.List.{append_assoc, append-nil, length-append}
use Rattle.std.proofs.lemmas.List.Elements.{All-weaker, All-push, All-head, All-tail, All-contains}
use Rattle.std.proofs.lemmas.List.Elements.{Contains-append_left, Contains-append_cases, Contains-push, Contains-get_or}
use Rattle.std.proofs.lemmas.List.Quantifiers.{all_pairs_push}
use Rattle.std.proofs.lemmas.Option.{get_or_from_slice_get, slice_get_within}
use Rattle.rights_types.specs.Entries.{EntryValue}
use Rattle.rights_types.specs.Chains.{end, closed_from, IsChain, IsPrefix, IsLongest, IsFull, HeadNotIn}
use Rattle.rights_types.proofs.Chains.{all_in_more, chain_left, chain_right, not_before, prefix_next, next_entry}
use Rattle.rights_protocol.specs.Invariant.{LinkInvariant}

-- ---- the log grows

-- a set of a log's entries does not contain the entry that comes after it
not_sent : (o : ℕ) (es : List EntryValue) (e : EntryValue) (set : List EntryValue) → IsChain o (es ++ e ∷ [])
    → All (Contains es) set → Contains set e → ⊥
not_sent o es e set c a i =
    let next = chain_right o false 0 es (e ∷ []) c in
    let at : end es ≤ e.prev = omega (arith, next.2) in
    not_before o es e (chain_left o false 0 es (e ∷ []) c) at (All-contains (Contains es) set e a i)

longest_grows : (o : ℕ) (es : List EntryValue) (e : EntryValue) (set put rest : List EntryValue)
    → IsChain o (es ++ e ∷ []) → All (Contains es) set → All (Contains set) put
    → put ++ rest ≡ es → HeadNotIn set rest → IsLongest set (es ++ e ∷ []) put
longest_grows o es e set put [] c a i w n = record {
  rest = e ∷ [];
  whole = ap (λ (xs : List EntryValue). xs ++ e ∷ []) (sym (append-nil put) ∙ w);
  inside = i;
  no_longer = not_sent o es e set c a;
}
longest_grows o es e set put (x ∷ xs) c a i w n = record {
  rest = x ∷ xs ++ e ∷ [];
  whole = sym (append_assoc put (x ∷ xs) (e ∷ [])) ∙ ap (λ (ys : List EntryValue). ys ++ e ∷ []) w;
  inside = i;
  no_longer = n;
}

pub link_grows : (o : ℕ) (es : List EntryValue) (e : EntryValue) (reached put applied : List EntryValue)
    → IsChain o (es ++ e ∷ []) → LinkInvariant es reached put applied
    → LinkInvariant (es ++ e ∷ []) reached put applied
link_grows o es e reached put applied c k = record {
  sent = All-weaker (Contains es) (Contains (es ++ e ∷ [])) (λ x h. Contains-append_left es (e ∷ []) x h)
      reached k.sent;
  once = k.once;
  longest = longest_grows o es e reached put k.longest.rest c k.sent k.longest.inside k.longest.whole
      k.longest.no_longer;
  held = k.held;
  begins = k.begins;
}

-- ---- an entry reaches

-- of two prefixes of one list, the one within the set and the one that cannot be extended
front_within : (set p q r t : List EntryValue) → p ++ r ≡ q ++ t → All (Contains set) p → HeadNotIn set t → IsPrefix p q
front_within set [] q r t e a n = (q, refl)
front_within set (x ∷ p) [] r t e a n =
    let out : ¬ Contains set x = subst (HeadNotIn set) (sym e) n in
    absurd (out (All-head (Contains set) x p a))
front_within set (x ∷ p) (y ∷ q) r t e a n =
    let first : x ≡ y = cc in
    let others : p ++ r ≡ q ++ t = cc in
    let rest = front_within set p q r t others (All-tail (Contains set) x p a) n in (
      rest.0,
      ap (λ (z : EntryValue). z ∷ (p ++ rest.0)) first ∙ ap (λ (zs : List EntryValue). y ∷ zs) rest.1,
    )

-- a prefix within the set is no longer than the longest one
within_longest : (set es p r q : List EntryValue) → p ++ r ≡ es → All (Contains set) p → IsLongest set es q
    → IsPrefix p q
within_longest set es p r q whole inside l = front_within set p q r l.rest (whole ∙ sym l.whole) inside l.no_longer

-- the longest prefix only grows with the set
longest_more : (set es p q : List EntryValue) (e : EntryValue) → IsLongest set es p → IsLongest (set ++ e ∷ []) es q
    → IsPrefix p q
longest_more set es p q e k l = within_longest (set ++ e ∷ []) es p k.rest q k.whole (all_in_more set p e k.inside) l

pub prefix_of_prefix : (xs ys zs : List EntryValue) → IsPrefix xs ys → IsPrefix ys zs → IsPrefix xs zs
prefix_of_prefix xs ys zs (a, p) (b, q)
    = (a ++ b, sym (append_assoc xs a b) ∙ ap (λ (ws : List EntryValue). ws ++ b) p ∙ q)

prefix_length : (xs ys : List EntryValue) → IsPrefix xs ys → length xs ≤ length ys
prefix_length xs ys (rest, p) = omega (arith, length-append xs rest, ap length p)

-- the next entry is delivered, so put is longer
next_put : (o : ℕ) (es set p q : List EntryValue) (e : EntryValue) → IsChain o es → Contains es e → e.prev ≡ end p
    → IsLongest set es p → IsLongest (set ++ e ∷ []) es q → length p + 1 ≤ length q
next_put o es set p q e c sent next k l =
    let chain : IsChain o (p ++ k.rest) = subst (IsChain o) (sym k.whole) c in
    let in_rest : Contains k.rest e
    = elim (Contains-append_cases p k.rest e (subst (λ xs. Contains xs e) (sym k.whole) sent)) [
      | inl h ↦ absurd (not_before o p e (chain_left o false 0 p k.rest chain) (omega (arith, next)) h)
      | inr h ↦ h
    ] in
    let first = next_entry o (closed_from false p) (end p) k.rest e (chain_right o false 0 p k.rest chain)
    in_rest next in
    let whole : (p ++ e ∷ []) ++ first.0 ≡ es = append_assoc p (e ∷ []) first.0
    ∙ ap (λ (xs : List EntryValue). p ++ xs) first.1 ∙ k.whole in
    let inside : All (Contains (set ++ e ∷ [])) (p ++ e ∷ [])
    = All-push (Contains (set ++ e ∷ [])) p e (all_in_more set p e k.inside) (Contains-push set e) in
    omega (
      arith,
      prefix_length (p ++ e ∷ []) q
          (within_longest (set ++ e ∷ []) es (p ++ e ∷ []) first.0 q whole inside l),
      length-append p (e ∷ []),
    )

-- one more entry of the log reaches
pub link_reaches : (o : ℕ) (es reached put now applied : List EntryValue) (e : EntryValue) → IsChain o es
    → LinkInvariant es reached put applied → Contains es e → ¬ Contains reached e
    → ((e.prev ≡ end put) ⊎ (¬ IsFull reached put)) → IsLongest (reached ++ e ∷ []) es now
    → LinkInvariant es (reached ++ e ∷ []) now applied
link_reaches o es reached put now applied e c k sent fresh room longest =
    let longer : IsPrefix put now = longest_more reached es put now e k.longest longest in
    record {
      sent = All-push (Contains es) reached e k.sent sent;
      once = all_pairs_push (λ x y. x ≢ y) reached e k.once
          (λ i d lt is. fresh (subst (Contains reached) is (Contains-get_or reached i d lt)));
      longest = longest;
      held = elim room [
        | inl next ↦ omega (
          arith,
          k.held,
          next_put o es reached put now e c sent next k.longest longest,
          length-append reached (e ∷ []),
        )
        | inr free ↦ omega (arith, free, prefix_length put now longer, length-append reached (e ∷ []))
      ];
      begins = prefix_of_prefix applied put now k.begins longer;
    }

-- ---- a take

pub link_applies : (es reached put applied : List EntryValue) (e : EntryValue) → LinkInvariant es reached put applied
    → slice_get put (length applied) ≡ Some e
    → LinkInvariant es reached put (applied ++ e ∷ [])
link_applies es reached put applied e k next = record {
  sent = k.sent;
  once = k.once;
  longest = k.longest;
  held = k.held;
  begins = prefix_next applied put e k.begins (slice_get_within put (length applied) e next)
      (get_or_from_slice_get put (length applied) e e next);
}

-- what was applied is a prefix of the log
pub applied_begins : (es reached put applied : List EntryValue) → LinkInvariant es reached put applied
    → IsPrefix applied es
applied_begins es reached put applied k = prefix_of_prefix applied put es k.begins (k.longest.rest, k.longest.whole)
