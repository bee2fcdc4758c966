-- Changes of one of two sites.
use Rattle.std.proofs.Common.{◌≡◌, ◌≢◌, ℕ, ◌-◌, ◌⊎◌, inl, inr, true, false, cond, eqb, List, [], ◌∷◌, ◌++◌, length}
use Rattle.std.proofs.Common.{Some, arith, refl, ap}
use Rattle.std.specs.List.{Contains, list_any, slice_get}
use Rattle.std.proofs.lemmas.Bool.{ne_eqb, or_parts, eq-eqb, both_ways}
use Rattle.rights_types.specs.Entries.{EntryValue}
use Rattle.rights_types.specs.Chains.{end, is_closed, IsLongest, IsFull}
use Rattle.rights_types.specs.Moves.{names}
use Rattle.rights_types.specs.declared.moves.Move.{Move}
use Rattle.rights_types.proofs.Chains.{not_in_nil, contains_cases}
use Rattle.rights_protocol.specs.Retiring.{entry_at_end, taking_back}
use Rattle.rights_protocol.specs.Writing.{MayAppend}
use Rattle.rights_protocol.specs.Changes.{Stays, OthersStay, Step}
use Rattle.rights_protocol.specs.Changes.Change.{Append, Offer, Take}
use Rattle.rights_protocol.specs.Examples.{Side, side, from_other, two}

pub same : (a b : Side) → Stays (two a b) (two a b)
same a b = record {
  count = refl;
  sites = λ k. record { log = refl; links = λ o. record { reached = refl; put = refl; applied = refl } };
}

others_stay : (a b x y : Side) (s : ℕ) → ((k : ℕ) → k ≢ s → side x y k ≡ side a b k) → OthersStay (two a b) (two x y) s
others_stay a b x y s alike = record {
  count = refl;
  sites = λ k ne. record {
    log = ap (λ (z : Side). z.log) (alike k ne);
    links = λ o. record {
      reached = ap (λ (z : Side). from_other k o z.reached) (alike k ne);
      put = ap (λ (z : Side). from_other k o z.put) (alike k ne);
      applied = ap (λ (z : Side). from_other k o z.applied) (alike k ne);
    };
  };
}

-- only site 1 changes, or only site 2
pub only_1 : (a x b : Side) → OthersStay (two a b) (two x b) 1
only_1 a x b = others_stay a b x b 1 (λ k ne. let no : eqb k 1 ≡ false = ne_eqb k 1 ne in rw no refl)

pub only_2 : (a b y : Side) → OthersStay (two a b) (two a y) 2
only_2 a b y = others_stay a b a y 2 (λ k ne. let no : eqb k 2 ≡ false = ne_eqb k 2 ne in rw no refl)

-- ---- writes

pub append_1 : (a b : Side) (ms : List Move) → MayAppend 2 1 a.log (λ o. from_other 1 o a.applied) ms
    → Step (two a b) (Append 1 ms) (two (record a { log = a.log ++ entry_at_end 1 a.log ms ∷ [] }) b)
append_1 a b ms may = record {
  site = (omega arith, omega arith);
  may = may;
  log = refl;
  links = λ o. record { reached = refl; put = refl; applied = refl };
  others = only_1 a (record a { log = a.log ++ entry_at_end 1 a.log ms ∷ [] }) b;
}

-- a site that has applied nothing knows no site as closed
none_closed : (s c : ℕ) → is_closed (from_other s c []) ≡ false
none_closed s c = elim (eqb c (3 - s)) as (λ b. is_closed (cond b [] []) ≡ false) [
  | true ↦ refl
  | false ↦ refl
]

pub knows_none : (s c : ℕ) (ms : List Move) → is_closed (from_other s c []) ≡ true → list_any (names c) ms ≡ false
knows_none s c ms h = absurd (both_ways (is_closed (from_other s c [])) (none_closed s c) h)

-- ---- offers and takes at site 2

pub reaches_2 : (a b : Side) (e : EntryValue) (put : List EntryValue) → Contains a.log e → ¬ Contains b.reached e
    → ((e.prev ≡ end b.put) ⊎ (¬ IsFull b.reached b.put))
    → IsLongest (b.reached ++ e ∷ []) a.log put
    → Step (two a b) (Offer 2 1 e) (two a (record b { reached = b.reached ++ e ∷ []; put = put }))
reaches_2 a b e put sent fresh room longest = record {
  site = (omega arith, omega arith);
  from = (omega arith, omega arith);
  differ = omega arith;
  sent = sent;
  comes = inl (record {
    fresh = fresh;
    room = room;
    log = refl;
    reached = refl;
    put = longest;
    applied = refl;
    links = λ k ne. let no : eqb k 1 ≡ false
        = ne_eqb k 1 ne in record { reached = rw no refl; put = rw no refl; applied = refl };
    others = only_2 a b (record b { reached = b.reached ++ e ∷ []; put = put });
  });
}

pub takes_2 : (a b : Side) (e : EntryValue) (log : List EntryValue) → is_closed b.log ≡ false
    → slice_get b.put (length b.applied) ≡ Some e → log ≡ b.log ++ taking_back 2 1 b.log e
    → Step (two a b) (Take 2 1) (two a (record b { log = log; applied = b.applied ++ e ∷ [] }))
takes_2 a b e log unclosed next grown = record {
  site = (omega arith, omega arith);
  from = (omega arith, omega arith);
  differ = omega arith;
  unclosed = unclosed;
  entry = e;
  next = next;
  applied = record { there = refl; elsewhere = λ c ne. let no : eqb c 1 ≡ false = ne_eqb c 1 ne in rw no refl };
  log = grown;
  reached = λ k. refl;
  put = λ k. refl;
  others = only_2 a b (record b { log = log; applied = b.applied ++ e ∷ [] });
}

-- ---- entries that begin at different numbers differ

pub absent : (es : List EntryValue) (e : EntryValue) → list_any (λ (x : EntryValue). eqb x.prev e.prev) es ≡ false
    → ¬ Contains es e
absent [] e h i = not_in_nil e i
absent (x ∷ es) e h i =
    let p = or_parts (eqb x.prev e.prev) (list_any (λ (y : EntryValue). eqb y.prev e.prev) es) h in
    elim (contains_cases x es e i) [
      | inl q ↦ both_ways (eqb x.prev e.prev) p.0 (eq-eqb x.prev e.prev (ap (λ (y : EntryValue). y.prev) q))
      | inr q ↦ absent es e p.1 q
    ]
