-- The plan, from what each site is known to have.
use Rattle.std.proofs.Common.{◌≡◌, ℕ, ◌-◌, ◌<◌, ◌≤◌, min, Bool, true, false, not, cond, eqb, ltb, ◌&&◌, List, ◌++◌}
use Rattle.std.proofs.Common.{length, take, drop, inl, inr, refl, sym, ap, ◌∙◌, subst, arith}
use Rattle.std.specs.Prelude.{ℤ, ◌||◌, None, is_none}
use Rattle.std.proofs.lemmas.Bool.{cases_eq, eq-eqb, ne_eqb, ltb-true}
use Rattle.std.proofs.lemmas.List.{length-take-le, take_at}
use Rattle.rights_types.specs.Places.{at_site}
use Rattle.rights_types.specs.Entries.{EntryValue}
use Rattle.transfer_manager.specs.SiteSets.{no_sites, has_site}
use Rattle.rights_types.specs.Rights.{sum_sites}
use Rattle.rights_types.proofs.Places.{at_site-replicate}
use Rattle.rights_types.proofs.SiteSums.{sum_same}
use Rattle.rights_book.specs.Books.{BookValue, IsBook, sites as book_sites}
use Rattle.rights_book.specs.StandsFor.{StandsFor}
use Rattle.rights_book.specs.declared.account.Account.{Account}
use Rattle.rights_book.proofs.BookLaws.{inside}
use Rattle.rights_book.proofs.StandLaws.{account_stands, known_stands, held_stands}
use Rattle.transfer_manager.specs.declared.peer_asks.PeerAsks.{PeerAsks}
use Rattle.transfer_manager.specs.Managers.{ManagerValue, sites, asks, no_asks, amount_of, with_ask, with_asked}
use Rattle.transfer_manager.specs.Managers.{IsPeerAsks, IsManager}
use Rattle.transfer_manager.specs.Plans.{Knowledge, of_book, of_logs, beside, open_asks, expected, need, above_zero}
use Rattle.transfer_manager.specs.Plans.{is_eligible}
use Rattle.transfer_manager.specs.Plans.{eligible_rights, rights_of, is_before, rights_before, amount_asked}
use Rattle.transfer_manager.specs.Plans.{count_asked, planned, Plans}
use Rattle.transfer_manager.proofs.ManagerLaws.{no_asks_is}
use Rattle.transfer_manager.proofs.Sites.{asks_few, at_site-take}

-- ---- who is eligible

last_and : (x y : Bool) → (x && y) ≡ true → y ≡ true
last_and true y h = h
last_and false y h = cc

first_and : (x y : Bool) → (x && y) ≡ true → x ≡ true
first_and true y h = refl
first_and false y h = cc

has_some : (c : Bool) (n : ℕ) → 0 < cond c n 0 → c ≡ true
has_some true n h = refl
has_some false n h = absurd (omega arith)

-- a site with rights is eligible, and so has an ask number left
pub rights_left : (me : ℕ) (k : Knowledge) (j : ℕ) (p : PeerAsks) → 0 < eligible_rights me k j p
    → p.last_ask < 1000000000
rights_left me k j p h =
    let eligible = has_some (is_eligible me k j p) (above_zero (k.known j)) h in
    let left = first_and
    (not (eqb j me) && is_none p.outstanding && not (k.closed j) && not (k.silent j) && ltb p.last_ask 1000000000)
    (ltb 0 (above_zero (k.known j))) eligible in
    ltb-true p.last_ask 1000000000
    (last_and (not (eqb j me) && is_none p.outstanding && not (k.closed j) && not (k.silent j))
    (ltb p.last_ask 1000000000) left)

-- a site is not its own peer
own_rights : (me : ℕ) (k : Knowledge) (p : PeerAsks) → eligible_rights me k me p ≡ 0
own_rights me k p =
    ap (λ (t : Bool). cond (not t && is_none p.outstanding && not (k.closed me) && not (k.silent me)
    && ltb p.last_ask 1000000000 && ltb 0 (above_zero (k.known me))) (above_zero (k.known me)) 0)
    (eq-eqb me me refl)

-- ---- amounts by rights that agree

-- the same numbers at the sites 1 to n
abbrev pub Agree : ℕ → (ℕ → ℕ) → (ℕ → ℕ) → Type 0
Agree n f g = (j : ℕ) → 1 ≤ j → j ≤ n → f j ≡ g j

before_same : (f g : ℕ → ℕ) (i j : ℕ) → f i ≡ g i → f j ≡ g j
    → cond (is_before f i j) (f i) 0 ≡ cond (is_before g i j) (g i) 0
before_same f g i j p q =
    ap (λ x. cond (ltb (f j) x || (eqb x (f j) && ltb i j)) x 0) p
    ∙ ap (λ y. cond (ltb y (g i) || (eqb (g i) y && ltb i j)) (g i) 0) q

pub amount_same : (n : ℕ) (f g : ℕ → ℕ) (lack : ℕ) → Agree n f g
    → Agree n (amount_asked n f lack) (amount_asked n g lack)
amount_same n f g lack same j low high =
    let before : rights_before n f j ≡ rights_before n g j =
    sum_same n (λ i. cond (is_before f i j) (f i) 0) (λ i. cond (is_before g i j) (g i) 0)
    (λ i l h. before_same f g i j (same i l h) (same j low high)) in
    ap (λ x. min (min x (lack - rights_before n f j)) 1000000000) (same j low high)
    ∙ ap (λ x. min (min (g j) (lack - x)) 1000000000) before

pub count_same : (n : ℕ) (f g : ℕ → ℕ) → Agree n f g → count_asked n f ≡ count_asked n g
count_same n f g same = sum_same n (λ j. cond (eqb (f j) 0) 0 1) (λ j. cond (eqb (g j) 0) 0 1)
    (λ j low high. ap (λ x. cond (eqb x 0) 0 1) (same j low high))

-- ---- the steps of a plan

-- the asks once those to closed sites have ended, and the rights of each site
pub record IsOpened (m : ManagerValue) (k : Knowledge) (opened : List PeerAsks) (rights : List ℕ) : Type 0 where
  pub same : length opened ≡ sites m
  pub opens : (j : ℕ) → 1 ≤ j → j ≤ sites m → at_site opened j no_asks ≡ open_asks m k j
  pub enough : sites m ≤ length rights
  pub has : (j : ℕ) → 1 ≤ j → j ≤ length opened
      → at_site rights j 0 ≡ eligible_rights m.me k j (at_site opened j no_asks)

pub is_opened : (m : ManagerValue) (k : Knowledge) (opened : List PeerAsks) (rights : List ℕ) → IsManager m
    → length opened ≡ sites m
    → ((j : ℕ) → 1 ≤ j → j ≤ sites m → at_site opened j no_asks ≡ open_asks m k j) → length rights ≡ 16
    → ((j : ℕ) → 1 ≤ j → j ≤ length opened → at_site rights j 0 ≡ eligible_rights m.me k j (at_site opened j no_asks))
    → IsOpened m k opened rights
is_opened m k opened rights is same opens whole has
    = record { same = same; opens = opens; enough = omega (arith, whole, is.few); has = has }

-- the rights of the sites of the system
abbrev pub in_front : ManagerValue → List ℕ → ℕ → ℕ
in_front m rights j = at_site (take (sites m) rights) j 0

front_has : (m : ManagerValue) (k : Knowledge) (opened : List PeerAsks) (rights : List ℕ) → IsOpened m k opened rights
    → Agree (sites m) (in_front m rights) (rights_of m k)
front_has m k opened rights o j low high =
    at_site-take (sites m) rights j 0 high ∙ o.has j low (omega (arith, high, o.same))
    ∙ ap (eligible_rights m.me k j) (o.opens j low high)

pub front_bounded : (m : ManagerValue) (k : Knowledge) (opened : List PeerAsks) (rights : List ℕ) (most : ℕ)
    → IsOpened m k opened rights
    → ((j : ℕ) → at_site rights j 0 ≤ most) → (j : ℕ) → in_front m rights j ≤ most
front_bounded m k opened rights most o bounded j =
    elim (inside {X = ℕ} 0 (sites m) j) [
      | inl r ↦ let high : j ≤ sites m = r.1 in omega (arith, at_site-take (sites m) rights j 0 high, bounded j)
      | inr out ↦ omega (arith, out (take (sites m) rights) (length-take-le (sites m) rights o.enough))
    ]

pub front_left : (m : ManagerValue) (k : Knowledge) (opened : List PeerAsks) (rights : List ℕ)
    → IsOpened m k opened rights
    → (j : ℕ) → 0 < in_front m rights j → (at_site opened j no_asks).last_ask < 1000000000
front_left m k opened rights o j some =
    elim (inside {X = ℕ} 0 (sites m) j) [
      | inl r ↦
          let high : j ≤ sites m = r.1 in
          let e = at_site-take (sites m) rights j 0 high ∙ o.has j r.0 (omega (arith, high, o.same)) in
          rights_left m.me k j (at_site opened j no_asks) (omega (arith, e, some))
      | inr out ↦ absurd (omega (arith, out (take (sites m) rights) (length-take-le (sites m) rights o.enough), some))
    ]

-- .. and then the need and the new asks
pub record IsPlanned (m : ManagerValue) (k : Knowledge) (queued : ℕ) (opened asked : List PeerAsks) (rights : List ℕ)
    (lack count : ℕ) : Type 0 where
  pub begun : IsOpened m k opened rights
  pub whole : length asked ≡ sites m
  pub lacks : lack ≡ (queued - k.held) - sum_sites (length opened)
      (λ j. expected k j (at_site opened j no_asks))
  pub asks_each : (j : ℕ) → 1 ≤ j → j ≤ sites m
      → at_site asked j no_asks
      ≡ with_asked (at_site opened j no_asks) (amount_asked (sites m) (in_front m rights) lack j)
  pub counted : count ≡ count_asked (sites m) (amount_asked (sites m) (in_front m rights) lack)

need_is : (m : ManagerValue) (k : Knowledge) (queued : ℕ) (opened asked : List PeerAsks) (rights : List ℕ)
    (lack count : ℕ)
    → IsPlanned m k queued opened asked rights lack count → lack ≡ need m k queued
need_is m k queued opened asked rights lack count is =
    let sums : sum_sites (length opened) (λ j. expected k j (at_site opened j no_asks))
    ≡ sum_sites (sites m) (λ j. expected k j (open_asks m k j)) =
    ap (λ n. sum_sites n (λ j. expected k j (at_site opened j no_asks))) is.begun.same
    ∙ sum_same (sites m) (λ j. expected k j (at_site opened j no_asks))
    (λ j. expected k j (open_asks m k j))
    (λ j low high. ap (expected k j) (is.begun.opens j low high)) in
    is.lacks ∙ ap (λ n. (queued - k.held) - n) sums

pub plans : (m : ManagerValue) (k : Knowledge) (queued : ℕ) (opened asked : List PeerAsks) (rights : List ℕ)
    (lack count : ℕ)
    → IsPlanned m k queued opened asked rights lack count → Plans m k queued count (record { me = m.me; peers = asked })
plans m k queued opened asked rights lack count is =
    let lacking = need_is m k queued opened asked rights lack count is in
    let amounts : Agree (sites m) (amount_asked (sites m) (in_front m rights) lack) (planned m k queued) = λ j low high.
    ap (λ n. amount_asked (sites m) (in_front m rights) n j) lacking
    ∙ amount_same (sites m) (in_front m rights) (rights_of m k) (need m k queued) (front_has m k opened rights is.begun)
    j low high in
    record {
      same = record { same_me = refl; same_sites = is.whole };
      each = λ j low high.
          is.asks_each j low high ∙ ap (with_asked (at_site opened j no_asks)) (amounts j low high)
          ∙ ap (λ p. with_asked p (planned m k queued j)) (is.begun.opens j low high);
      counted = is.counted ∙ count_same (sites m) (amount_asked (sites m) (in_front m rights) lack)
          (planned m k queued) amounts;
    }

-- each site is asked once
pub planned_few : (m : ManagerValue) (k : Knowledge) (queued count : ℕ) (new : ManagerValue) → IsManager m
    → Plans m k queued count new → count ≤ 16
planned_few m k queued count new is p = omega (arith, p.counted, asks_few (sites m) (planned m k queued), is.few)

-- ---- a manager after its plan

-- what was asked of each, and how many were asked, once the asks to closed peers have ended
pub opened_plans : (m : ManagerValue) (k : Knowledge) (queued : ℕ) (opened asked : List PeerAsks) (rights : List ℕ)
    (lack count : ℕ)
    → IsOpened m k opened rights → length asked ≡ length opened
    → lack ≡ (queued - k.held) - sum_sites (length opened) (λ j. expected k j (at_site opened j no_asks))
    → ((j : ℕ) → 1 ≤ j → j ≤ length opened
    → at_site asked j no_asks
    ≡ with_asked (at_site opened j no_asks)
    (amount_asked (length opened) (λ i. at_site (take (length opened) rights) i 0) lack j))
    → count ≡ count_asked (length opened)
    (amount_asked (length opened) (λ i. at_site (take (length opened) rights) i 0) lack)
    → Plans m k queued count (record { me = m.me; peers = asked })
opened_plans m k queued opened asked rights lack count begun whole lacks each counted =
    plans m k queued opened asked rights lack count (record {
      begun = begun;
      whole = whole ∙ begun.same;
      lacks = lacks;
      asks_each = rw begun.same at each;
      counted = rw begun.same at counted;
    })

-- the items of the prefix, once they were written
pub front_written : (n : ℕ) (ps new : List PeerAsks) → 16 ≤ length ps → n ≤ 16 → length new ≡ length (take n ps)
    → take n (new ++ drop n ps) ≡ new
front_written n ps new whole few same =
    let fit : n ≤ length ps = omega (arith, whole, few) in take_at new (drop n ps) n (same ∙ length-take-le n ps fit)

closed_is : (t : Bool) (p : PeerAsks) → IsPeerAsks p → IsPeerAsks (cond t (record p { outstanding = None }) p)
closed_is true p is = record { numbers = is.numbers; asked = tt }
closed_is false p is = is

closed_none : (t : Bool) (p : PeerAsks) → p.outstanding ≡ None
    → (let q : PeerAsks = cond t (record p { outstanding = None }) p in q.outstanding ≡ None)
closed_none true p h = refl
closed_none false p h = h

asked_is : (p : PeerAsks) (n : ℕ) → IsPeerAsks p → n ≤ 1000000000 → (1 ≤ n → p.last_ask < 1000000000)
    → IsPeerAsks (with_asked p n)
asked_is p n is high left =
    elim (cases_eq n 0) [
      | inl e ↦ rw e is
      | inr ne ↦
          let low : 1 ≤ n = omega (arith, ne) in
          let next = left low in
          subst (λ t. IsPeerAsks (cond t p (with_ask p n))) (sym (ne_eqb n 0 ne))
          (record { numbers = omega (arith, next); asked = ((low, high), omega arith) })
    ]

planned_asks : (m : ManagerValue) (k : Knowledge) (queued j : ℕ) → IsManager m
    → IsPeerAsks (with_asked (open_asks m k j) (planned m k queued j))
planned_asks m k queued j is =
    asked_is (open_asks m k j) (planned m k queued j) (closed_is (k.closed j) (asks m j) (is.each j)) (omega arith)
    (λ low. rights_left m.me k j (open_asks m k j) (omega (arith, low)))

own_unasked : (m : ManagerValue) (k : Knowledge) (queued : ℕ) → planned m k queued m.me ≡ 0
own_unasked m k queued = omega (arith, own_rights m.me k (open_asks m k m.me))

pub planned_is : (m new : ManagerValue) (k : Knowledge) (queued count : ℕ) → IsManager m → Plans m k queued count new
    → IsManager new
planned_is m new k queued count is p =
    let same = p.same.same_sites in
    let me = p.same.same_me in record {
      some = rw same is.some;
      few = rw same is.few;
      member = rw (same, me) is.member;
      each = λ j.
          elim (inside no_asks (sites m) j) [
            | inl r ↦ subst IsPeerAsks (sym (p.each j r.0 r.1)) (planned_asks m k queued j is)
            | inr out ↦ subst IsPeerAsks (sym (out new.peers same)) no_asks_is
          ];
      none_own = rw me (ap (λ (a : PeerAsks). a.outstanding) (p.each m.me is.member.0 is.member.1
          ∙ ap (with_asked (open_asks m k m.me)) (own_unasked m k queued))
          ∙ closed_none (k.closed m.me) (asks m m.me) is.none_own);
    }

-- ---- the same plan by the logs

-- the same is known of the sites 1 to n
pub record SameKnowledge (n : ℕ) (x y : Knowledge) : Type 0 where
  pub known : (j : ℕ) → 1 ≤ j → j ≤ n → x.known j ≡ y.known j
  pub closed : (j : ℕ) → 1 ≤ j → j ≤ n → x.closed j ≡ y.closed j
  pub silent : (j : ℕ) → 1 ≤ j → j ≤ n → x.silent j ≡ y.silent j
  pub held : x.held ≡ y.held

open_same : (m : ManagerValue) (x y : Knowledge) → SameKnowledge (sites m) x y → (j : ℕ) → 1 ≤ j → j ≤ sites m
    → open_asks m x j ≡ open_asks m y j
open_same m x y same j low high
    = ap (λ (c : Bool). let p : PeerAsks = cond c (record (asks m j) { outstanding = None }) (asks m j) in
    p) (same.closed j low high)

abbrev rights_by : ℕ → ℕ → Bool → Bool → ℤ → PeerAsks → ℕ
rights_by me j c s z p = cond (not (eqb j me) && is_none p.outstanding && not c && not s && ltb p.last_ask 1000000000
    && ltb 0 (above_zero z)) (above_zero z) 0

rights_same : (m : ManagerValue) (x y : Knowledge) → SameKnowledge (sites m) x y
    → Agree (sites m) (rights_of m x) (rights_of m y)
rights_same m x y same j low high =
    ap (λ c. rights_by m.me j c (x.silent j) (x.known j) (open_asks m x j)) (same.closed j low high)
    ∙ ap (λ s. rights_by m.me j (y.closed j) s (x.known j) (open_asks m x j)) (same.silent j low high)
    ∙ ap (λ z. rights_by m.me j (y.closed j) (y.silent j) z (open_asks m x j)) (same.known j low high)
    ∙ ap (rights_by m.me j (y.closed j) (y.silent j) (y.known j)) (open_same m x y same j low high)

need_same : (m : ManagerValue) (x y : Knowledge) (queued : ℕ) → SameKnowledge (sites m) x y
    → need m x queued ≡ need m y queued
need_same m x y queued same =
    let sums : sum_sites (sites m) (λ j. expected x j (open_asks m x j))
    ≡ sum_sites (sites m) (λ j. expected y j (open_asks m y j)) =
    sum_same (sites m) (λ j. expected x j (open_asks m x j)) (λ j. expected y j (open_asks m y j))
    (λ j low high. ap (λ (s : Bool). cond s 0 (amount_of (open_asks m x j).outstanding)) (same.silent j low high)
    ∙ ap (expected y j) (open_same m x y same j low high)) in
    omega (arith, sums, same.held)

pub plans_same : (m new : ManagerValue) (x y : Knowledge) (queued count : ℕ) → SameKnowledge (sites m) x y
    → Plans m x queued count new → Plans m y queued count new
plans_same m new x y queued count same p =
    let amounts : Agree (sites m) (planned m x queued) (planned m y queued) = λ j low high.
    ap (λ n. amount_asked (sites m) (rights_of m x) n j) (need_same m x y queued same)
    ∙ amount_same (sites m) (rights_of m x) (rights_of m y) (need m y queued) (rights_same m x y same) j low high in
    record {
      same = p.same;
      each = λ j low high.
          p.each j low high ∙ ap (with_asked (open_asks m x j)) (amounts j low high)
          ∙ ap (λ q. with_asked q (planned m y queued j)) (open_same m x y same j low high);
      counted = p.counted ∙ count_same (sites m) (planned m x queued) (planned m y queued) amounts;
    }

-- a book knows what the logs that it represents say
pub by_logs : (b : BookValue) (log : List EntryValue) (applied : ℕ → List EntryValue) (n : ℕ) → IsBook b
    → StandsFor log applied b → book_sites b ≡ n
    → SameKnowledge n (of_book b) (of_logs n b.me log applied)
by_logs b log applied n is s count = rw (← count) (record {
  known = λ j low high. known_stands b log applied j is s low high;
  closed = λ j low high. ap (λ (a : Account). a.closed) (account_stands b log applied j s);
  silent = λ j low high. refl;
  held = held_stands b log applied is s;
})

-- .. and so beside silent sites
pub by_logs_beside : (silent : ℕ → Bool) (n : ℕ) (x y : Knowledge) → SameKnowledge n x y
    → SameKnowledge n (beside silent x) (beside silent y)
by_logs_beside silent n x y same
    = record { known = same.known; closed = same.closed; silent = λ j low high. refl; held = same.held }

-- nobody is silent
pub beside_nobody : (n : ℕ) (x : Knowledge) → ((j : ℕ) → x.silent j ≡ false)
    → SameKnowledge n (beside (has_site no_sites) x) x
beside_nobody n x none = record {
  known = λ j low high. refl;
  closed = λ j low high. refl;
  silent = λ j low high. at_site-replicate (λ (b : Bool). b ≡ false) 16 j false false (λ l h. refl) refl ∙ sym (none j);
  held = refl;
}
