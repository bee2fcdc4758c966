-- What is true of every book, and remains true.
use Rattle.std.proofs.Common.{◌≡◌, ◌≢◌, ℕ, zero, suc, ◌+◌, ◌-◌, ◌*◌, ◌≤◌, ◌⊎◌, inl, inr, Bool, true, false, cond, eqb}
use Rattle.std.proofs.Common.{List, length, get_or, set, replicate, refl, sym, ap, ◌∙◌, subst, arith}
use Rattle.std.specs.List.{All}
use Rattle.std.proofs.lemmas.Bool.{eq-eqb, ne_eqb, cases_eq, cases_lt}
use Rattle.std.proofs.lemmas.List.{length-replicate, get_or_read}
use Rattle.rights_types.specs.Moves.{IsMove, NamesWithin}
use Rattle.rights_types.specs.Places.{at_site, set_site}
use Rattle.rights_types.specs.Rights.{out, to, taken_back, back, sum_sites}
use Rattle.rights_types.specs.declared.moves.Move.{Move}
use Rattle.rights_types.proofs.Places.{at_site_past, at_site-replicate, at_site-index, set_site-index, length-set_site}
use Rattle.rights_types.proofs.SiteSums.{sum_same, sum_add, sum_zero, sum_le, sum_term, sum_bound_but, sum_risen}
use Rattle.rights_types.proofs.Sums.{to-bound, nothing_to, out_is, taken_back_is, rights_after_is}
use Rattle.rights_book.specs.Accounts.{no_account, with_moves, IsAccount}
use Rattle.rights_book.specs.Peers.{no_peer, with_own, with_gifts}
use Rattle.rights_book.specs.Books.{BookValue, sites, peer, account, received_by, held_by, new_book, Writes, Applies}
use Rattle.rights_book.specs.Books.{applied_by, IsBook}
use Rattle.rights_book.specs.declared.account.Account.{Account}
use Rattle.rights_book.specs.declared.peer.Peer.{Peer}
use Rattle.rights_book.proofs.PeerLaws.{applied_peer, no_gift_here, applied_at}
use Rattle.rights_book.proofs.CheckLaws.{IsChecked, named_within}

-- ---- sites of the system, and outside it

pub no_account_kept : IsAccount no_account
no_account_kept = record {
  in_range = omega arith;
  issues = omega arith;
  spends = omega arith;
  gives = omega arith;
  takes_back = omega arith;
}

-- no list of n items has one for site j
abbrev pub Outside : {X : Type 0} → X → ℕ → ℕ → Type 0
Outside d n j = (xs : List _) → length xs ≡ n → at_site xs j d ≡ d

pub inside : {X : Type 0} (d : X) (n j : ℕ) → ((1 ≤ j) × (j ≤ n)) ⊎ Outside d n j
inside d n zero = inr (λ xs h. refl)
inside d n (suc i) =
    elim (cases_lt n (suc i)) [
      | inl past ↦ inr (λ xs h. at_site_past xs (suc i) d (omega (arith, h, past)))
      | inr within ↦ inl (omega arith, within)
    ]

-- ---- a book at the start

pub new_peer : (n j : ℕ) → at_site (replicate n no_peer) j no_peer ≡ no_peer
new_peer n j = at_site-replicate (λ (p : Peer). p ≡ no_peer) n j no_peer no_peer (λ low high. refl) refl

none_known : (n me : ℕ) (f : Peer → ℕ) → f no_peer ≡ 0 → sum_sites n (λ j. f (peer (new_book me n) j)) ≡ 0
none_known n me f none = sum_same n (λ j. f (peer (new_book me n) j)) (λ j. 0) (λ j low high. ap f (new_peer n j)
    ∙ none) ∙ sum_zero n

pub new_is_book : (me n : ℕ) → 2 ≤ n → n ≤ 16 → 1 ≤ me → me ≤ n → IsBook (new_book me n)
new_is_book me n some few low high =
    let b : BookValue = new_book me n in
    let count : sites b ≡ n = length-replicate n no_peer in
    let empty : (j : ℕ) → peer b j ≡ no_peer = new_peer n in
    let of : (f : Peer → ℕ) → f no_peer ≡ 0 → sum_sites (sites b) (λ j. f (peer b j)) ≡ 0
    = λ f none. rw count (none_known n me f none) in
    record {
      some = omega (arith, count);
      few = omega (arith, count);
      member = (low, omega (arith, count));
      own_account = no_account_kept;
      accounts = λ o. subst (λ (p : Peer). IsAccount p.log) (sym (empty o)) no_account_kept;
      nothing_applied = ap (λ (p : Peer). p.log.end) (empty me);
      nothing_given = ap (λ (p : Peer). p.given) (empty me);
      received_within = λ o. omega (arith, ap (λ (p : Peer). p.received) (empty o));
      received_is = ap (λ (p : Peer). p.gifts) (empty me) ∙ sym (of (λ p. p.received) refl);
      gifts_within = λ j. omega (arith, ap (λ (p : Peer). p.gifts) (empty j));
      given_is = sym (of (λ p. p.given) refl);
      back_is = sym (of (λ p. p.back) refl);
      back_within = λ j. omega (arith, ap (λ (p : Peer). p.given) (empty j), ap (λ (p : Peer). p.back) (empty j));
      not_negative = omega arith;
    }

-- ---- bounds

pub record IsBounded (b : BookValue) : Type 0 where
  pub issues : b.own.issued ≤ 1000000000000000000
  pub spends : b.own.spent ≤ 1000000000000000000
  pub takes_back : b.own.back ≤ 1000000000000000000
  pub applies : applied_by b ≤ 15000000000
  pub receives : received_by b ≤ 15000000000000000000
  pub receives_from : (o : ℕ) → (peer b o).received ≤ 1000000000000000000
  pub gives_to : (j : ℕ) → (peer b j).given ≤ 1000000000000000000

given_term : (b : BookValue) → IsBook b → (j : ℕ) → (peer b j).given ≤ b.own.given
given_term b is j =
    elim (inside no_peer (sites b) j) [
      | inl r ↦ omega (arith, is.given_is, sum_term (sites b) j (λ k. (peer b k).given) r.0 r.1)
      | inr out ↦ omega (arith, ap (λ (p : Peer). p.given) (out b.peers refl))
    ]

-- no more is reclaimed than was given
pub back_given : (b : BookValue) → IsBook b → b.own.back ≤ b.own.given
back_given b is = omega (
  arith,
  is.given_is,
  is.back_is,
  sum_le (sites b) (λ j. (peer b j).back) (λ j. (peer b j).given)
      (λ j low high. is.back_within j),
)

pub bounded : (b : BookValue) → IsBook b → IsBounded b
bounded b is =
    let n : ℕ = sites b in
    let few = is.few in
    let numbers : applied_by b + 1000000000 ≤ n * 1000000000 =
    sum_bound_but n b.me 1000000000 (λ o. (peer b o).log.end) is.member.0 is.member.1 is.nothing_applied
    (λ o. (is.accounts o).in_range) in
    let gives : b.own.given ≤ 1000000000000000000 = omega (arith, is.own_account.gives, is.own_account.in_range) in
    record {
      issues = omega (arith, is.own_account.issues, is.own_account.in_range);
      spends = omega (arith, is.own_account.spends, is.own_account.in_range);
      takes_back = omega (arith, gives, back_given b is);
      applies = omega (arith, numbers, few);
      receives = omega (arith, numbers, few, is.gifts_within b.me);
      receives_from = λ o. omega (arith, is.received_within o, (is.accounts o).in_range);
      gives_to = λ j. omega (arith, gives, given_term b is j);
    }

account_either : (k : Bool) (a b : Account) → IsAccount a → IsAccount b → IsAccount (cond k a b)
account_either true a b p q = p
account_either false a b p q = q

pub account_kept : (b : BookValue) → IsBook b → (j : ℕ) → IsAccount (account b j)
account_kept b is j = account_either (eqb j b.me) b.own (peer b j).log is.own_account (is.accounts j)

-- what a site is known to have gained, and what it is known to have given and spent
abbrev pub gained : BookValue → ℕ → ℕ
gained b j = (account b j).issued + (peer b j).gifts + (peer b j).given + (account b j).back

abbrev pub parted : BookValue → ℕ → ℕ
parted b j = (account b j).given + (account b j).spent

pub known_bounds : (b : BookValue) → IsBook b → (j : ℕ) → (gained b j ≤ 1000000017000000000000000000)
    × (parted b j ≤ 2000000000000000000)
known_bounds b is j =
    let kept = account_kept b is j in
    let bounds = bounded b is in (
      omega (arith, kept.in_range, kept.issues, kept.takes_back, is.gifts_within j, bounds.applies, bounds.gives_to j),
      omega (arith, kept.in_range, kept.gives, kept.spends),
    )

-- ---- moves of the book's own site

-- the effect of the code: on the site's account, and on each peer
pub own_wrote : (old new : BookValue) (ms : List Move) (ps : List Peer) → ps ≡ old.peers → new.me ≡ old.me
    → new.own ≡ with_moves old.own ms → sites new ≡ length ps
    → ((j : ℕ) → peer new j ≡ with_own (at_site ps j no_peer) j ms) → Writes old ms new
own_wrote old new ms ps is me own same each = record {
  same_me = me;
  same_sites = same ∙ ap length is;
  writes = own;
  each = λ j. each j ∙ ap (λ (ps : List Peer). with_own (at_site ps j no_peer) j ms) is;
}

own_peer : (old new : BookValue) (ms : List Move) → Writes old ms new
    → peer new new.me ≡ with_own (peer old old.me) old.me ms
own_peer old new ms w = w.each new.me ∙ ap (λ k. with_own (peer old k) k ms) w.same_me

-- they leave what was received
pub received_kept : (old new : BookValue) (ms : List Move) → Writes old ms new → received_by new ≡ received_by old
received_kept old new ms w = ap (λ (p : Peer). p.gifts) (own_peer old new ms w)

pub written_book : (old new : BookValue) (ms : List Move) → IsBook old → IsChecked old ms → All IsMove ms
    → ((j : ℕ) → back j ms ≤ (peer old j).given - (peer old j).back)
    → IsAccount new.own → Writes old ms new → IsBook new
written_book old new ms is checked ranges backs kept w =
    let n : ℕ = sites old in
    let named : All (NamesWithin n) ms = named_within n ms ranges checked.within in
    let at_me = own_peer old new ms w in
    let same : (f : ℕ → ℕ) → sum_sites (sites new) f ≡ sum_sites n f = λ f. ap (λ k. sum_sites k f) w.same_sites in
    let given_sum : sum_sites n (λ j. (peer new j).given) ≡ sum_sites n (λ j. (peer old j).given) + out ms =
    sum_same n (λ j. (peer new j).given) (λ j. (peer old j).given + to j ms)
    (λ j low high. ap (λ (p : Peer). p.given) (w.each j))
    ∙ sum_add n (λ j. (peer old j).given) (λ j. to j ms)
    ∙ ap (λ k. sum_sites n (λ j. (peer old j).given) + k) (out_is n ms named) in
    let back_sum : sum_sites n (λ j. (peer new j).back) ≡ sum_sites n (λ j. (peer old j).back) + taken_back ms =
    sum_same n (λ j. (peer new j).back) (λ j. (peer old j).back + back j ms)
    (λ j low high. ap (λ (p : Peer). p.back) (w.each j))
    ∙ sum_add n (λ j. (peer old j).back) (λ j. back j ms)
    ∙ ap (λ k. sum_sites n (λ j. (peer old j).back) + k) (taken_back_is n ms named) in
    let received_sum : sum_sites n (λ o. (peer new o).received) ≡ sum_sites n (λ o. (peer old o).received) =
    sum_same n (λ o. (peer new o).received) (λ o. (peer old o).received)
    (λ o low high. ap (λ (p : Peer). p.received) (w.each o)) in
    let end_sum : sum_sites n (λ o. (peer new o).log.end) ≡ sum_sites n (λ o. (peer old o).log.end) =
    sum_same n (λ o. (peer new o).log.end) (λ o. (peer old o).log.end)
    (λ o low high. ap (λ (p : Peer). p.log.end) (w.each o)) in
    let received = received_kept old new ms w in
    record {
      some = omega (arith, is.some, w.same_sites);
      few = omega (arith, is.few, w.same_sites);
      member = (omega (arith, is.member.0, w.same_me), omega (arith, is.member.1, w.same_me, w.same_sites));
      own_account = kept;
      accounts = λ o. subst (λ (p : Peer). IsAccount p.log) (sym (w.each o)) (is.accounts o);
      nothing_applied = ap (λ (p : Peer). p.log.end) at_me ∙ is.nothing_applied;
      nothing_given = omega (
        arith,
        ap (λ (p : Peer). p.given) at_me,
        is.nothing_given,
        nothing_to old.me ms checked.others,
      );
      received_within = λ o. omega (
        arith,
        ap (λ (p : Peer). p.received) (w.each o),
        ap (λ (p : Peer). p.log.end) (w.each o),
        is.received_within o,
      );
      received_is = received ∙ is.received_is ∙ sym received_sum ∙ sym (same (λ o. (peer new o).received));
      gifts_within = λ j. omega (
        arith,
        ap (λ (p : Peer). p.gifts) (w.each j),
        is.gifts_within j,
        end_sum,
        same (λ o. (peer new o).log.end),
      );
      given_is = omega (
        arith,
        ap (λ (a : Account). a.given) w.writes,
        is.given_is,
        given_sum,
        same (λ j. (peer new j).given),
      );
      back_is = omega (
        arith,
        ap (λ (a : Account). a.back) w.writes,
        is.back_is,
        back_sum,
        same (λ j. (peer new j).back),
      );
      back_within = λ j. omega (
        arith,
        ap (λ (p : Peer). p.back) (w.each j),
        ap (λ (p : Peer). p.given) (w.each j),
        is.back_within j,
        backs j,
      );
      not_negative = omega (
        arith,
        rights_after_is (held_by old) ms checked.covered,
        is.not_negative,
        received,
        ap (λ (a : Account). a.given) w.writes,
        ap (λ (a : Account). a.spent) w.writes,
        ap (λ (a : Account). a.issued) w.writes,
        ap (λ (a : Account). a.back) w.writes,
      );
    }

-- ---- moves of another site

-- what a book knows of each site after moves of site o were applied
pub record IsApplied (old : BookValue) (o : ℕ) (ms : List Move) (new : BookValue) : Type 0 where
  pub log_here : (peer new o).log ≡ with_moves (peer old o).log ms
  pub received_here : (peer new o).received ≡ (peer old o).received + to old.me ms
  pub gifts_here : (peer new o).gifts ≡ (peer old o).gifts
  pub log_other : (k : ℕ) → k ≢ o → (peer new k).log ≡ (peer old k).log
  pub received_other : (k : ℕ) → k ≢ o → (peer new k).received ≡ (peer old k).received
  pub gifts_other : (k : ℕ) → k ≢ o → 1 ≤ k → k ≤ sites old → (peer new k).gifts ≡ (peer old k).gifts + to k ms
  pub gifts_most : (k : ℕ) → (peer new k).gifts ≤ (peer old k).gifts + to k ms
  pub given_same : (k : ℕ) → (peer new k).given ≡ (peer old k).given
  pub back_same : (k : ℕ) → (peer new k).back ≡ (peer old k).back

abbrev gifted_peer : Peer → ℕ → Peer
gifted_peer p n = record p { gifts = p.gifts + n }

peer_other : (old new : BookValue) (o : ℕ) (ms : List Move) → Applies old o ms new → (k : ℕ) → k ≢ o
    → (((1 ≤ k) × (k ≤ sites old)) × (peer new k ≡ gifted_peer (peer old k) (to k ms)))
    ⊎ (Outside no_peer (sites old) k × (peer new k ≡ peer old k))
peer_other old new o ms a k ne =
    elim (inside no_peer (sites old) k) [
      | inl r ↦ inl (r, a.each k r.0 r.1 ∙ (rw (ne_eqb k o ne) refl))
      | inr out ↦ inr (out, out new.peers a.same_sites ∙ sym (out old.peers refl))
    ]

peer_here : (old new : BookValue) (o : ℕ) (ms : List Move) → Applies old o ms new → 1 ≤ o → o ≤ sites old
    → peer new o ≡ applied_peer old.me (peer old o) ms
peer_here old new o ms a low high = a.each o low high ∙ (rw (eq-eqb o o refl) refl)

cong : {X : Type 0} (f : Peer → X) (p q : Peer) → p ≡ q → f p ≡ f q
cong f p q e = ap f e

-- a gift changes nothing of another site
kept_other : {X : Type 0} (f : Peer → X) (old new : BookValue) (o : ℕ) (ms : List Move) → Applies old o ms new
    → ((p : Peer) (n : ℕ) → f (gifted_peer p n) ≡ f p)
    → (k : ℕ) → k ≢ o → f (peer new k) ≡ f (peer old k)
kept_other f old new o ms a kept k ne =
    elim (peer_other old new o ms a k ne) [
      | inl p ↦ cong f (peer new k) (gifted_peer (peer old k) (to k ms)) p.1 ∙ kept (peer old k) (to k ms)
      | inr p ↦ cong f (peer new k) (peer old k) p.1
    ]

-- what neither a gift nor an entry of its log changes
kept_all : (f : Peer → ℕ) (old new : BookValue) (o : ℕ) (ms : List Move) → Applies old o ms new → 1 ≤ o → o ≤ sites old
    → ((p : Peer) (n : ℕ) → f (gifted_peer p n) ≡ f p)
    → ((p : Peer) → f (applied_peer old.me p ms) ≡ f p) → (k : ℕ) → f (peer new k) ≡ f (peer old k)
kept_all f old new o ms a low high kept applied k =
    elim (cases_eq k o) [
      | inl e ↦ subst (λ i. f (peer new i) ≡ f (peer old i)) (sym e)
          (cong f (peer new o) (applied_peer old.me (peer old o) ms) (peer_here old new o ms a low high)
          ∙ applied (peer old o))
      | inr ne ↦ kept_other f old new o ms a kept k ne
    ]

most_other : (old new : BookValue) (o : ℕ) (ms : List Move) → Applies old o ms new → (k : ℕ) → k ≢ o
    → (peer new k).gifts ≤ (peer old k).gifts + to k ms
most_other old new o ms a k ne =
    elim (peer_other old new o ms a k ne) [
      | inl p ↦ omega (arith, cong (λ q. q.gifts) (peer new k) (gifted_peer (peer old k) (to k ms)) p.1)
      | inr p ↦ omega (arith, cong (λ q. q.gifts) (peer new k) (peer old k) p.1)
    ]

pub applied_facts : (old new : BookValue) (o : ℕ) (ms : List Move) → 1 ≤ o → o ≤ sites old → Applies old o ms new
    → IsApplied old o ms new
applied_facts old new o ms low high a =
    let here : peer new o ≡ applied_peer old.me (peer old o) ms = peer_here old new o ms a low high in
    record {
      log_here = ap (λ (p : Peer). p.log) here;
      received_here = ap (λ (p : Peer). p.received) here;
      gifts_here = ap (λ (p : Peer). p.gifts) here;
      log_other = kept_other (λ p. p.log) old new o ms a (λ p n. refl);
      received_other = kept_other (λ p. p.received) old new o ms a (λ p n. refl);
      gifts_other = λ k ne l h.
          (let e : peer new k ≡ gifted_peer (peer old k) (to k ms) = a.each k l h ∙ (rw (ne_eqb k o ne) refl) in
          cong (λ q. q.gifts) (peer new k) (gifted_peer (peer old k) (to k ms)) e);
      gifts_most = λ k. elim (cases_eq k o) [
        | inl e ↦ subst (λ i. (peer new i).gifts ≤ (peer old i).gifts + to i ms) (sym e)
            (omega (arith, ap (λ (p : Peer). p.gifts) here))
        | inr ne ↦ most_other old new o ms a k ne
      ];
      given_same = kept_all (λ p. p.given) old new o ms a low high (λ p n. refl) (λ p. refl);
      back_same = kept_all (λ p. p.back) old new o ms a low high (λ p n. refl) (λ p. refl);
    }

pub received_risen : (old new : BookValue) (o : ℕ) (ms : List Move) → IsBook old → o ≢ old.me → Applies old o ms new
    → IsApplied old o ms new → received_by new ≡ received_by old + to old.me ms
received_risen old new o ms is other a f =
    ap (λ k. (peer new k).gifts) a.same_me ∙ f.gifts_other old.me (λ e. other (sym e)) is.member.0 is.member.1

pub applied_book : (old new : BookValue) (o : ℕ) (ms : List Move) → IsBook old → 1 ≤ o → o ≤ sites old → o ≢ old.me
    → All IsMove ms
    → IsAccount (with_moves (peer old o).log ms) → Applies old o ms new → IsBook new
applied_book old new o ms is low high other ranges kept a =
    let n : ℕ = sites old in
    let f : IsApplied old o ms new = applied_facts old new o ms low high a in
    let me_other : old.me ≢ o = λ e. other (sym e) in
    let same : (t : ℕ → ℕ) → sum_sites (sites new) t ≡ sum_sites n t = λ t. ap (λ k. sum_sites k t) a.same_sites in
    let given_sum : sum_sites n (λ j. (peer new j).given) ≡ sum_sites n (λ j. (peer old j).given) =
    sum_same n (λ j. (peer new j).given) (λ j. (peer old j).given) (λ j l h. f.given_same j) in
    let back_sum : sum_sites n (λ j. (peer new j).back) ≡ sum_sites n (λ j. (peer old j).back) =
    sum_same n (λ j. (peer new j).back) (λ j. (peer old j).back) (λ j l h. f.back_same j) in
    let received_sum : sum_sites n (λ k. (peer new k).received) ≡ sum_sites n (λ k. (peer old k).received)
    + to old.me ms =
    sum_risen n o (to old.me ms) (λ k. (peer old k).received) (λ k. (peer new k).received) low high f.received_other
    f.received_here in
    let end_sum : sum_sites n (λ k. (peer new k).log.end) ≡ sum_sites n (λ k. (peer old k).log.end) + length ms =
    sum_risen n o (length ms) (λ k. (peer old k).log.end) (λ k. (peer new k).log.end) low high
    (λ k ne. ap (λ (l : Account). l.end) (f.log_other k ne)) (ap (λ (l : Account). l.end) f.log_here) in
    let received : received_by new ≡ received_by old + to old.me ms = received_risen old new o ms is other a f in
    record {
      some = omega (arith, is.some, a.same_sites);
      few = omega (arith, is.few, a.same_sites);
      member = (omega (arith, is.member.0, a.same_me), omega (arith, is.member.1, a.same_me, a.same_sites));
      own_account = subst IsAccount (sym a.same_own) is.own_account;
      accounts = λ k. elim (cases_eq k o) [
        | inl e ↦ subst (λ i. IsAccount (peer new i).log) (sym e) (subst IsAccount (sym f.log_here) kept)
        | inr ne ↦ subst IsAccount (sym (f.log_other k ne)) (is.accounts k)
      ];
      nothing_applied = ap (λ k. (peer new k).log.end) a.same_me
          ∙ ap (λ (l : Account). l.end) (f.log_other old.me me_other) ∙ is.nothing_applied;
      nothing_given = ap (λ k. (peer new k).given) a.same_me ∙ f.given_same old.me ∙ is.nothing_given;
      received_within = λ k. elim (cases_eq k o) [
        | inl e ↦ subst (λ i. (peer new i).received ≤ (peer new i).log.end * 1000000000) (sym e)
            (omega (
              arith,
              f.received_here,
              ap (λ (l : Account). l.end) f.log_here,
              is.received_within o,
              to-bound old.me ms ranges,
            ))
        | inr ne ↦ omega (
          arith,
          f.received_other k ne,
          ap (λ (l : Account). l.end) (f.log_other k ne),
          is.received_within k,
        )
      ];
      received_is = omega (arith, received, is.received_is, received_sum, same (λ k. (peer new k).received));
      gifts_within = λ j. omega (
        arith,
        f.gifts_most j,
        is.gifts_within j,
        to-bound j ms ranges,
        end_sum,
        same (λ k. (peer new k).log.end),
      );
      given_is = ap (λ (l : Account). l.given) a.same_own ∙ is.given_is ∙ sym given_sum
          ∙ sym (same (λ j. (peer new j).given));
      back_is = ap (λ (l : Account). l.back) a.same_own ∙ is.back_is ∙ sym back_sum
          ∙ sym (same (λ j. (peer new j).back));
      back_within = λ j. omega (arith, f.given_same j, f.back_same j, is.back_within j);
      not_negative = omega (
        arith,
        is.not_negative,
        received,
        ap (λ (l : Account). l.given) a.same_own,
        ap (λ (l : Account). l.spent) a.same_own,
        ap (λ (l : Account). l.issued) a.same_own,
        ap (λ (l : Account). l.back) a.same_own,
      );
    }

-- the effect of the code: gifts to each site, and then the origin's own entry
pub record IsBooked (x : BookValue) (o : ℕ) (ms : List Move) (log : Account) (y : BookValue) : Type 0 where
  pub applies : Applies x o ms y
  pub kept : IsAccount log → IsAccount (with_moves (peer x o).log ms)

abbrev pub with_peer : BookValue → List Peer → ℕ → Peer → BookValue
with_peer x gs i p = record { me = x.me; own = x.own; peers = set gs i p }

booked : (x : BookValue) (o i : ℕ) (ms : List Move) (gs : List Peer) (it : Peer) (log : Account) (gift : ℕ) → i + 1 ≡ o
    → o ≤ sites x → length gs ≡ sites x
    → ((j : ℕ) → 1 ≤ j → j ≤ sites x → at_site gs j no_peer ≡ with_gifts (peer x j) o j ms) → it ≡ get_or gs i it
    → log ≡ with_moves it.log ms → gift ≡ to x.me ms
    → IsBooked x o ms log (with_peer x gs i (record it { log = log; received = it.received + gift }))
booked x o i ms gs it log gift at high same gifts read logs gave =
    let p : Peer = record it { log = log; received = it.received + gift } in
    let low : 1 ≤ o = omega (arith, at) in
    let found : it ≡ peer x o =
    get_or_read gs i it (omega (arith, at, high, same)) read no_peer ∙ sym (at_site-index gs i o no_peer at)
    ∙ gifts o low high ∙ no_gift_here (peer x o) o ms in
    let left : p ≡ applied_peer x.me (peer x o) ms =
    ap (λ (a : Account). let q : Peer = record it { log = a; received = it.received + gift } in q) logs
    ∙ ap (λ n. let q : Peer = record it { log = with_moves it.log ms; received = it.received + n } in q) gave
    ∙ ap (λ (q : Peer). applied_peer x.me q ms) found in
    let written : set_site gs o p ≡ set gs i p = set_site-index gs i o p at in
    let count : length (set gs i p) ≡ sites x = ap length (sym written) ∙ length-set_site gs o p ∙ same in
    record {
      applies = record {
        same_me = refl;
        same_sites = count;
        same_own = refl;
        each = λ j l h.
            ap (λ (ps : List Peer). at_site ps j no_peer) (sym written)
            ∙ applied_at x.peers gs x.me o ms p same low high gifts left j l h;
      };
      kept = λ is. subst (λ (q : Peer). IsAccount (with_moves q.log ms)) found (subst IsAccount logs is);
    }

-- .. by the entry's moves and the book's peers, as the code read them
pub booked_by : (x : BookValue) (o i : ℕ) (ms read_moves : List Move) (ps gs : List Peer) (it : Peer) (log : Account)
    (gift : ℕ) → i + 1 ≡ o → o ≤ sites x
    → read_moves ≡ ms → ps ≡ x.peers → length gs ≡ length ps
    → ((j : ℕ) → 1 ≤ j → j ≤ length ps → at_site gs j no_peer ≡ with_gifts (at_site ps j no_peer) o j read_moves)
    → it ≡ get_or gs i it
    → log ≡ with_moves it.log read_moves → gift ≡ to x.me read_moves
    → IsBooked x o ms log (with_peer x gs i (record it { log = log; received = it.received + gift }))
booked_by x o i ms read_moves ps gs it log gift at high moves peers same gifts read logs gave =
    booked x o i ms gs it log gift at high (same ∙ ap length peers) (rw (peers, moves) at gifts) read (logs
    ∙ ap (with_moves it.log) moves) (gave ∙ ap (to x.me) moves)
