-- What is preserved of asks from a journal.
use Rattle.std.proofs.Common.{◌≡◌, ℕ, zero, suc, ◌⊎◌, inl, inr, Bool, true, false, cond, eqb, List, length, refl, sym, ap, ◌∙◌}
use Rattle.std.proofs.Common.{subst, arith}
use Rattle.std.specs.Prelude.{Option, Some, None, IfSome}
use Rattle.std.proofs.lemmas.Bool.{cases_lt}
use Rattle.std.proofs.lemmas.List.{set_past}
use Rattle.rights_types.specs.Places.{at_site, set_site}
use Rattle.rights_types.proofs.Places.{at_set_site}
use Rattle.transfer_manager.specs.declared.peer_asks.PeerAsks.{PeerAsks}
use Rattle.transfer_manager.specs.Managers.{ManagerValue, asks, no_asks, with_asks, SameSystem}
use Rattle.transfer_manager.specs.Outliving.{Outlives, AllOutlive, ChangesUnrecorded, Unrecorded, StepsOutlive}

abbrev without : PeerAsks → PeerAsks
without p = record p { outstanding = None }

-- an ask that ended
as_before : (o : Option ℕ) → IfSome o (λ n. o ≡ Some n)
as_before None = tt
as_before (Some n) = refl

pub unrecorded_end : (b : Bool) (p : PeerAsks) → ChangesUnrecorded p (cond b (without p) p)
unrecorded_end true p = record {
  same_last = refl;
  or_ended = tt;
  or_later = omega arith;
  or_denied = λ h. (h, refl);
}
unrecorded_end false p = record {
  same_last = refl;
  or_ended = as_before p.outstanding;
  or_later = omega arith;
  or_denied = λ h. (h, refl);
}

-- .. and that both ended
ended_both : (b c : Bool) (p q : PeerAsks) → b ≡ c → Outlives p q
    → Outlives (cond b (without p) p) (cond c (without q) q)
ended_both true true p q same o = record {
  same_last = o.same_last;
  or_more = tt;
  no_more = o.no_more;
  granted = o.granted;
}
ended_both true false p q same o = absurd cc
ended_both false true p q same o = absurd cc
ended_both false false p q same o = o

-- what is still outstanding is so again
still : (new p q : Option ℕ) → IfSome new (λ n. p ≡ Some n) → IfSome p (λ n. q ≡ Some n) → IfSome new (λ n. q ≡ Some n)
still None p q h k = tt
still (Some n) p q h k = subst (λ o. IfSome o (λ m. q ≡ Some m)) h k

pub asks_outlive : (p q : PeerAsks) → Outlives p q → StepsOutlive p q
asks_outlive p q o = record {
  asked = λ n. record {
    same_last = omega (arith, o.same_last);
    or_more = refl;
    no_more = o.no_more;
    granted = o.granted;
  };
  ended = λ ask. ended_both (eqb p.last_ask ask) (eqb q.last_ask ask) p q (ap (λ n. eqb n ask) (sym o.same_last)) o;
  fresh = λ ask above. omega (arith, above, o.no_more);
  granted = λ ask. record {
    same_last = o.same_last;
    or_more = o.or_more;
    no_more = omega arith;
    granted = λ h. (refl, refl);
  };
  alone = λ new h. record {
    same_last = o.same_last ∙ sym h.same_last;
    or_more = still new.outstanding p.outstanding q.outstanding h.or_ended o.or_more;
    no_more = omega (arith, o.no_more, h.or_later);
    granted = λ g. (let was = h.or_denied g in let again = o.granted was.0 in (again.0, again.1 ∙ was.1));
  };
}

pub unrecorded : (p : PeerAsks) → Unrecorded p
unrecorded p = record {
  denied = λ ask. unrecorded_end (eqb p.last_ask ask) p;
  closed = unrecorded_end true p;
  denies = λ ask above. record {
    same_last = refl;
    or_ended = as_before p.outstanding;
    or_later = omega (arith, above);
    or_denied = λ h. absurd cc;
  };
}

-- ---- all sites

-- an item that was written, read at a site: it is there, or all is as before
read_set : (xs : List PeerAsks) (j k : ℕ) (x : PeerAsks)
    → ((k ≡ j) × (at_site (set_site xs j x) k no_asks ≡ x))
    ⊎ (at_site (set_site xs j x) k no_asks ≡ at_site xs k no_asks)
read_set xs zero k x = inr refl
read_set xs (suc i) k x = elim (cases_lt i (length xs)) [
  | inl h ↦ elim (at_set_site xs (suc i) k x no_asks (omega arith) (omega (arith, h))) [
    | inl p ↦ inl p
    | inr p ↦ inr p.1
  ]
  | inr h ↦ inr (ap (λ ys. at_site ys k no_asks) (set_past xs i x h))
]

-- two items that were written at the same site
both_set : (xs ys : List PeerAsks) (j k : ℕ) (x y : PeerAsks) → length xs ≡ length ys
    → Outlives (at_site xs k no_asks) (at_site ys k no_asks) → Outlives x y
    → Outlives (at_site (set_site xs j x) k no_asks) (at_site (set_site ys j y) k no_asks)
both_set xs ys zero k x y long each here = each
both_set xs ys (suc i) k x y long each here = elim (cases_lt i (length xs)) [
  | inl h ↦ elim (at_set_site xs (suc i) k x no_asks (omega arith) (omega (arith, h))) [
    | inl p ↦ elim (at_set_site ys (suc i) k y no_asks (omega arith) (omega (arith, h, long))) [
      | inl q ↦ subst (λ a. Outlives a (at_site (set_site ys (suc i) y) k no_asks)) (sym p.1)
          (subst (λ a. Outlives x a) (sym q.1) here)
      | inr q ↦ absurd (q.0 p.0)
    ]
    | inr p ↦ elim (at_set_site ys (suc i) k y no_asks (omega arith) (omega (arith, h, long))) [
      | inl q ↦ absurd (p.0 q.0)
      | inr q ↦ subst (λ a. Outlives a (at_site (set_site ys (suc i) y) k no_asks)) (sym p.1)
          (subst (λ a. Outlives (at_site xs k no_asks) a) (sym q.1) each)
    ]
  ]
  | inr h ↦ subst (λ zs. Outlives (at_site zs k no_asks) (at_site (set_site ys (suc i) y) k no_asks))
      (sym (set_past xs i x h))
      (subst (λ zs. Outlives (at_site xs k no_asks) (at_site zs k no_asks)) (sym (set_past ys i y (omega (arith, h, long))))
      each)
]

pub all_with : (m q : ManagerValue) (j : ℕ) (x y : PeerAsks) → SameSystem m q → AllOutlive m q → Outlives x y
    → AllOutlive (with_asks m j x) (with_asks q j y)
all_with m q j x y same all here k
    = both_set m.peers q.peers j k x y (sym same.same_sites) (all k) here

pub all_alone : (m new q : ManagerValue) → ((j : ℕ) → ChangesUnrecorded (asks m j) (asks new j)) → AllOutlive m q
    → AllOutlive new q
all_alone m new q changes all j = (asks_outlive (asks m j) (asks q j) (all j)).alone (asks new j) (changes j)

-- nothing changed
pub no_change : (p : PeerAsks) → ChangesUnrecorded p p
no_change p = unrecorded_end false p

-- the asks to and from one site changed
pub one_changed : (m : ManagerValue) (j : ℕ) (x : PeerAsks) → ChangesUnrecorded (asks m j) x → (k : ℕ)
    → ChangesUnrecorded (asks m k) (asks (with_asks m j x) k)
one_changed m j x here k = elim (read_set m.peers j k x) [
  | inl p ↦ subst (λ i. ChangesUnrecorded (asks m i) (asks (with_asks m j x) k)) (sym p.0)
      (subst (λ a. ChangesUnrecorded (asks m j) a) (sym p.1) here)
  | inr p ↦ subst (λ a. ChangesUnrecorded (asks m k) a) (sym p) (no_change (asks m k))
]
