-- The effect of an arrival.
use Rattle.std.proofs.Common.{◌≡◌, ◌+◌, ◌≤◌, List, [], ◌∷◌, ◌++◌, ◌*◌, ◌<◌, ◌⊎◌, inl, inr, length, Some, None, refl}
use Rattle.std.proofs.Common.{sym, ap, ◌∙◌, subst, arith, ℕ}
use Rattle.std.proofs.lemmas.List.{append-nil, append_assoc, length-append}
use Rattle.std.proofs.lemmas.Bool.{cases_lt}
use Rattle.rights_types.specs.Entries.{EntryValue, IsEntry}
use Rattle.sub_buffer.specs.Buffers.{BufferValue, IsBuffer, IsSettled, SamePair}
use Rattle.sub_buffer.specs.Table.{OfferLeaves, PopLeaves, PopsLeave, more_held}
use Rattle.sub_buffer.specs.Follows.{HasPut, Follows, PopFollows, put_after, reached_after}
use Rattle.sub_buffer.specs.Arrivals.{MayFree, Frees, Arrives}
use Rattle.sub_buffer.specs.declared.verdict.Verdict.{Verdict}
use Rattle.sub_buffer.specs.declared.verdict.Verdict.TheVariants.{Ready, Held, Repeat, AfterClose, Full}
use Rattle.sub_buffer.proofs.Offers.{offer_chain, offer_told, offer_settled, offer_count, offer_few, settled_longest}

-- some held entries that had become next were delivered
pub record Freeing (old : BufferValue) (freed : List EntryValue) (new : BufferValue) : Type 0 where
  -- what is freed from here is freed from the start
  pub goes_on : (more : List EntryValue) (last : BufferValue) → PopsLeave new more last
      → PopsLeave old (freed ++ more) last
  pub pair : SamePair old new
  pub told : new.told ≡ old.told
  pub count : length freed + length new.held ≤ length old.held
  pub chain : (put : List EntryValue) → HasPut put old → HasPut (put ++ freed) new
  pub follows : (es set put : List EntryValue) → Follows es set put old → Follows es set (put ++ freed) new

pub freeing_none : (b : BufferValue) → Freeing b [] b
freeing_none b = record {
  goes_on = λ more last h. h;
  pair = record { me = refl; origin = refl };
  told = refl;
  count = omega arith;
  chain = λ put d. rw append-nil d;
  follows = λ es set put f. rw append-nil f;
}

pub freeing_one : (old b new : BufferValue) (freed : List EntryValue) (e : EntryValue) → Freeing old freed b
    → PopLeaves b (Some e) new → length new.held + 1 ≤ length b.held
    → ((put : List EntryValue) → HasPut put b → HasPut (put ++ e ∷ []) new)
    → ((es set put : List EntryValue) → Follows es set put b → PopFollows es set put (Some e) new)
    → Freeing old (freed ++ e ∷ []) new
freeing_one old b new freed e h table fewer chain follows = record {
  goes_on = λ more last after. rw append_assoc (h.goes_on (e ∷ more) last (new, table, after));
  pair = record {
    me = ap (λ (x : BufferValue). x.me) table.3
        ∙ h.pair.me;
    origin = ap (λ (x : BufferValue). x.origin) table.3 ∙ h.pair.origin;
  };
  told = ap (λ (x : BufferValue). x.told) table.3 ∙ h.told;
  count = omega (arith, h.count, fewer, length-append freed (e ∷ []));
  chain = λ put d. subst (λ xs. HasPut xs new) (append_assoc put freed (e ∷ [])) (chain (put ++ freed) (h.chain put d));
  follows = λ es set put f. subst (λ xs. Follows es set xs new) (append_assoc put freed (e ∷ []))
      (follows es set (put ++ freed) (h.follows es set put f)).3;
}

-- nothing is left that is next
pub frees : (old b new : BufferValue) (freed : List EntryValue) → Freeing old freed b → PopLeaves b None new
    → Frees old freed new
frees old b new freed h table = subst (Frees old freed) (sym table.1) (record {
  table = subst (λ xs. PopsLeave old xs b) (append-nil freed) (h.goes_on [] b (table.0, refl));
  settled = table.0;
  pair = h.pair;
  told = h.told;
  count = h.count;
  chain = h.chain;
  follows = h.follows;
})

pub frees_none : (b : BufferValue) → IsSettled b → Frees b [] b
frees_none b settled = frees b b b [] (freeing_none b) (settled, refl)

pub may_free_none : {A : Type 0} (v : Verdict A) → MayFree v []
may_free_none Repeat = refl
may_free_none AfterClose = refl
may_free_none (Ready x) = tt
may_free_none Full = refl
may_free_none Held = refl

offer_pair : {A : Type 0} (old new : BufferValue) (e : EntryValue) (v : Verdict A) → OfferLeaves old e v new
    → SamePair old new
offer_pair old new e Repeat h = subst (SamePair old) (sym h.1) (record { me = refl; origin = refl })
offer_pair old new e AfterClose h = subst (SamePair old) (sym h.2) (record { me = refl; origin = refl })
offer_pair old new e (Ready x) h = subst (SamePair old) (sym h.3) (record { me = refl; origin = refl })
offer_pair old new e Full h = subst (SamePair old) (sym h.2) (record { me = refl; origin = refl })
offer_pair old new e Held h = subst (SamePair old) (sym h.2) (record { me = refl; origin = refl })

pub arrives : {A : Type 0} (old mid new : BufferValue) (e : EntryValue) (v : Verdict A) (freed : List EntryValue)
    → IsBuffer old → IsEntry e → e.origin ≡ old.origin → IsSettled old → OfferLeaves old e v mid
    → MayFree v freed → Frees mid freed new → Arrives old e v freed new
arrives old mid new e v freed ok is of settled table may h = record {
  table = (mid, table, h.table);
  settled = h.settled;
  pair = let p = offer_pair old mid e v table in record { me = h.pair.me ∙ p.me; origin = h.pair.origin ∙ p.origin };
  count = omega (arith, h.count, offer_count old mid e v table);
  few = omega (arith, h.count, offer_few old mid e v ok.few table);
  frees = may;
  chain = λ put d. h.chain (put_after put v) (offer_chain old mid e v is of table put d);
  log = λ es set put i f.
      let offered = offer_settled es set put old mid e v i f (settled_longest old es set put f settled) table in
      let followed : Follows es (reached_after set e v) (put_after put v ++ freed) new
      = h.follows es (reached_after set e v) (put_after put v) offered.1 in (
        offered.0,
        followed,
        settled_longest new es (reached_after set e v) (put_after put v ++ freed) followed h.settled,
        h.told ∙ offer_told es set put old mid e v i f table,
      );
}

-- ---- entries of an answer

-- space for the verdicts on n more entries, if this many are held, after len verdicts
abbrev pub IsRoomFor : ℕ → ℕ → ℕ → ℕ → Type 0
IsRoomFor n held len places = (n ≡ 0) ⊎ (len + held + 2 * n ≤ places + 1) ⊎ ((2 ≤ n) × (len + 62 + 2 * n ≤ places))

pub room_at_first : (n held len places : ℕ) → n ≤ 16 → held ≤ 64 → len + 94 ≤ places → IsRoomFor n held len places
room_at_first n held len places few low room
    = elim (cases_lt n 2) [ inl lt ↦ inr (inl (omega arith)) | inr le ↦ inr (inr (le, omega arith)) ]

pub room_for_one : (n held len places : ℕ) → IsRoomFor n held len places → 0 < n → held ≤ 64 → len + held < places
room_for_one n held len places room some few =
    elim room [
      | inl none ↦ absurd (omega arith)
      | inr others ↦ elim others [ inl enough ↦ omega arith | inr many ↦ omega (arith, many.0, many.1) ]
    ]

room_after : (n held len places freed later : ℕ) → IsRoomFor (n + 1) held len places → held ≤ 64 → later ≤ 64
    → ((freed ≡ 0) × (later ≤ held + 1)) ⊎ (freed + later ≤ held)
    → len + 1 + freed + later + 2 * n ≤ places + 1
room_after n held len places freed later room few few' how =
    elim room [
      | inl none ↦ absurd (omega arith)
      | inr others ↦ elim others [
        | inl enough ↦ elim how [ inl quiet ↦ omega (arith, quiet.0, quiet.1) | inr ready ↦ omega arith ]
        | inr many ↦ elim how [
          | inl quiet ↦ omega (arith, many.0, many.1, quiet.0)
          | inr ready ↦ omega
              (arith, many.0, many.1)
        ]
      ]
    ]

-- either nothing is freed and at most one more is held, or what is freed was held
freed_or_held : {A : Type 0} (v : Verdict A) (freed : List EntryValue) (held later : ℕ) → MayFree v freed
    → length freed + later ≤ held + more_held v
    → ((length freed ≡ 0) × (later ≤ held + 1)) ⊎ (length freed + later ≤ held)
freed_or_held Repeat freed held later none count = inr (omega (arith, count))
freed_or_held AfterClose freed held later none count = inr (omega (arith, count))
freed_or_held (Ready x) freed held later none count = inr (omega (arith, count))
freed_or_held Full freed held later none count = inr (omega (arith, count))
freed_or_held Held freed held later none count = let zero : length freed ≡ 0
    = ap (λ (xs : List EntryValue). length xs) none in inl (zero, omega (arith, count))

pub room_rest : {A : Type 0} (n len places : ℕ) (old new : BufferValue) (e : EntryValue) (v : Verdict A)
    (freed : List EntryValue)
    → IsRoomFor (n + 1) (length old.held) len places → length old.held ≤ 64 → Arrives old e v freed new
    → len + 1 + length freed + length new.held + 2 * n ≤ places + 1
room_rest n len places old new e v freed room few h =
    room_after n (length old.held) len places (length freed) (length new.held) room few h.few
    (freed_or_held v freed (length old.held) (length new.held) h.frees h.count)
