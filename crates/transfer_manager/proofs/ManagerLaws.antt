-- What holds of every manager.
use Rattle.std.proofs.Common.{◌≡◌, ◌≢◌, ℕ, ◌+◌, ◌<◌, ◌≤◌, Bool, true, false, cond, eqb, List, length, take, get_or, set, inl}
use Rattle.std.proofs.Common.{inr, refl, sym, ap, ◌∙◌, subst, arith}
use Rattle.std.specs.Prelude.{replicate, None}
use Rattle.std.proofs.Math.Seq.{take-set-lt}
use Rattle.std.proofs.lemmas.List.{length-replicate, length-take, take-replicate, get_or-take, get_or_default}
use Rattle.std.proofs.lemmas.Bool.{ne_eqb}
use Rattle.rights_types.specs.Places.{at_site}
use Rattle.rights_types.specs.Ranges.{IsAmount}
use Rattle.rights_types.proofs.Places.{at_site-index, set_site-index, at_site-replicate, at_set_site, length-set_site}
use Rattle.rights_types.proofs.Places.{set_site_keeps}
use Rattle.transfer_manager.specs.declared.peer_asks.PeerAsks.{PeerAsks}
use Rattle.transfer_manager.specs.Managers.{ManagerValue, sites, asks, no_asks, with_asks, new_manager, with_ask}
use Rattle.transfer_manager.specs.Managers.{with_asked, with_ended, ended, IsPeerAsks, IsManager}

pub no_asks_is : IsPeerAsks no_asks
no_asks_is = record { numbers = omega arith; asked = tt }

pub new_asks : (n j : ℕ) → at_site (replicate n no_asks) j no_asks ≡ no_asks
new_asks n j = at_site-replicate (λ p. p ≡ no_asks) n j no_asks no_asks (λ low high. refl) refl

-- as many equal items as there are sites, of sixteen
pub of_sixteen : (n : ℕ) (p : PeerAsks) → n ≤ 16 → p ≡ no_asks → take n (replicate 16 p) ≡ replicate n no_asks
of_sixteen n p few is = take-replicate n 16 p few ∙ ap (replicate n) is

pub new_is_manager : (me n : ℕ) → 2 ≤ n → n ≤ 16 → 1 ≤ me → me ≤ n → IsManager (new_manager me n)
new_is_manager me n some few low high =
    let whole : length (replicate n no_asks) ≡ n = length-replicate n no_asks in record {
      some = rw whole some;
      few = rw whole few;
      member = (low, rw whole high);
      each = λ j. subst IsPeerAsks (sym (new_asks n j)) no_asks_is;
      none_own = ap (λ (p : PeerAsks). p.outstanding) (new_asks n me);
    }

-- other asks with one site, of which the manager's own has none outstanding
pub with_asks_is : (m : ManagerValue) (j : ℕ) (p : PeerAsks) → IsManager m → 1 ≤ j → j ≤ sites m → IsPeerAsks p
    → (j ≡ m.me → p.outstanding ≡ None) → IsManager (with_asks m j p)
with_asks_is m j p is low high valid own =
    let same : sites (with_asks m j p) ≡ sites m = length-set_site m.peers j p in record {
      some = rw same is.some;
      few = rw same is.few;
      member = (is.member.0, rw same is.member.1);
      each = set_site_keeps (λ k. IsPeerAsks) m.peers j p no_asks low high is.each valid;
      none_own = elim (at_set_site m.peers j m.me p no_asks low high) [
        | inl q ↦ ap (λ (a : PeerAsks). a.outstanding) q.1 ∙ own (sym q.0)
        | inr q ↦ ap (λ (a : PeerAsks). a.outstanding) q.1 ∙ is.none_own
      ];
    }

abbrev without : PeerAsks → PeerAsks
without p = record p { outstanding = None }

ends_is : (b : Bool) (p : PeerAsks) → IsPeerAsks p → IsPeerAsks (cond b (without p) p)
ends_is true p is = record { numbers = is.numbers; asked = tt }
ends_is false p is = is

ends_none : (b : Bool) (p : PeerAsks) → p.outstanding ≡ None
    → (let q : PeerAsks = cond b (without p) p in q.outstanding ≡ None)
ends_none true p h = refl
ends_none false p h = h

-- an ask that ended
pub ended_is : (m new : ManagerValue) (j ask : ℕ) → new ≡ ended m j ask → IsManager m → 1 ≤ j → j ≤ sites m
    → IsManager new
ended_is m new j ask same is low high =
    let p : PeerAsks = asks m j in
    rw same (with_asks_is m j (with_ended p ask) is low high (ends_is (eqb p.last_ask ask) p (is.each j)) (λ e.
    ends_none (eqb p.last_ask ask) p (subst (λ k. (asks m k).outstanding ≡ None) (sym e) is.none_own)))

-- the first sites' items of a list that has one for each site that a system can have
abbrev front : ℕ → ℕ → List PeerAsks → ManagerValue
front me n ps = record { me = me; peers = take n ps }

-- the index of a site of the system
index_inside : (n i j : ℕ) (ps : List PeerAsks) → i + 1 ≡ j → j ≤ length (take n ps) → i < n
index_inside n i j ps at high = omega (arith, at, high, length-take n ps)

-- the asks at the index of site j
asks_read : (me n i j : ℕ) (ps : List PeerAsks) (d : PeerAsks) → i + 1 ≡ j → j ≤ length (take n ps)
    → get_or ps i d ≡ asks (front me n ps) j
asks_read me n i j ps d at high =
    sym (get_or-take n ps i d (index_inside n i j ps at high)) ∙ get_or_default (take n ps) i d no_asks (omega arith)
    ∙ sym (at_site-index (take n ps) i j no_asks at)

-- .. and the manager with other asks there
asks_set : (me n i j : ℕ) (ps : List PeerAsks) (p q : PeerAsks) → i + 1 ≡ j → j ≤ length (take n ps) → p ≡ q
    → front me n (set ps i p) ≡ with_asks (front me n ps) j q
asks_set me n i j ps p q at high is =
    let made : List PeerAsks → ManagerValue = λ xs. record { me = me; peers = xs } in
    ap made (take-set-lt n ps i p (index_inside n i j ps at high)) ∙ ap made (sym (set_site-index (take n ps) i j p at))
    ∙ ap (with_asks (front me n ps) j) is

-- an ask ended at the index of site j
pub ended_set : (me n i j ask : ℕ) (ps : List PeerAsks) (d p : PeerAsks) → i + 1 ≡ j → j ≤ length (take n ps)
    → p ≡ with_ended (get_or ps i d) ask → front me n (set ps i p) ≡ ended (front me n ps) j ask
ended_set me n i j ask ps d p at high ends =
    asks_set me n i j ps p (with_ended (asks (front me n ps) j) ask) at high (ends
    ∙ ap (λ q. with_ended q ask) (asks_read me n i j ps d at high))

-- one more ask there
pub asked_set : (me n i j amount k : ℕ) (ps : List PeerAsks) (d p : PeerAsks) → i + 1 ≡ j → j ≤ length (take n ps)
    → p ≡ with_ask (get_or ps i d) amount → amount ≡ k
    → front me n (set ps i p) ≡ with_asks (front me n ps) j (with_ask (asks (front me n ps) j) k)
asked_set me n i j amount k ps d p at high is same =
    asks_set me n i j ps p (with_ask (asks (front me n ps) j) k) at high (is
    ∙ ap (λ q. with_ask q amount) (asks_read me n i j ps d at high)
    ∙ ap (λ m. with_ask (asks (front me n ps) j) m) same)

pub asked_is : (m new : ManagerValue) (j amount : ℕ) → new ≡ with_asks m j (with_ask (asks m j) amount)
    → IsManager m → 1 ≤ j → j ≤ sites m → j ≢ m.me → IsAmount amount → (asks m j).last_ask < 1000000000
    → IsManager new
asked_is m new j amount same is low high other in_range below =
    rw same (with_asks_is m j (with_ask (asks m j) amount) is low high
    (record { numbers = omega (arith, below); asked = (in_range, omega arith) }) (λ e. absurd (other e)))

-- an answer noted there
abbrev pub answered : PeerAsks → ℕ → Bool → PeerAsks
answered p n g = record p { last_answered = n; granted = g }

pub answered_set : (me n i j number k : ℕ) (g : Bool) (ps : List PeerAsks) (d : PeerAsks) → i + 1 ≡ j
    → j ≤ length (take n ps) → number ≡ k
    → front me n (set ps i (answered (get_or ps i d) number g))
    ≡ with_asks (front me n ps) j (answered (asks (front me n ps) j) k g)
answered_set me n i j number k g ps d at high same =
    let old : PeerAsks = asks (front me n ps) j in
    asks_set me n i j ps (answered (get_or ps i d) number g) (answered old k g) at high
    (ap (λ (p : PeerAsks). answered p number g) (asks_read me n i j ps d at high)
    ∙ ap (λ (l : ℕ). answered old l g) same)

pub answered_is : (m new : ManagerValue) (j n : ℕ) (g : Bool) → new ≡ with_asks m j (answered (asks m j) n g)
    → IsManager m → 1 ≤ j → j ≤ sites m
    → IsManager new
answered_is m new j n g same is low high =
    let p : PeerAsks = asks m j in
    rw same (with_asks_is m j (answered p n g) is low high
    (record { numbers = (is.each j).numbers; asked = (is.each j).asked })
    (λ e. subst (λ k. (asks m k).outstanding ≡ None) (sym e) is.none_own))

pub with_asked_none : (p : PeerAsks) (n : ℕ) → n ≡ 0 → with_asked p n ≡ p
with_asked_none p n h = rw h refl

pub with_asked_some : (p : PeerAsks) (n : ℕ) → 1 ≤ n → with_asked p n ≡ with_ask p n
with_asked_some p n h = rw (ne_eqb n 0 (λ e. omega (arith, e))) refl
