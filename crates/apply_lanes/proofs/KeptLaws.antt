-- Each change of the desk preserves the invariant of the lock's value.
use Rattle.std.proofs.Common.{◌≡◌, ℕ, ◌+◌, ◌-◌, ◌≤◌, ◌<◌, inl, inr, Bool, true, false, ◌==◌, Option, Some, None, Result}
use Rattle.std.proofs.Common.{Ok, Err, OnOk, OnErr, List, [], ◌∷◌, ◌++◌, length, get_or, set, cond, refl, sym, ap, ◌∙◌}
use Rattle.std.proofs.Common.{subst, arith}
use Rattle.std.proofs.lemmas.Bool.{cases_eq, eq-eqb, ne_eqb}
use Rattle.std.proofs.lemmas.List.{length-set, get_or_default}
use Rattle.std.proofs.lemmas.List.Sums.{sum_by-set, count_by-le-length}
use Rattle.rights_types.specs.Entries.{EntryValue, own, IsEntry}
use Rattle.rights_types.specs.Rights.{issued, spent, to, sum_sites}
use Rattle.rights_types.specs.Messages.{MessageValue}
use Rattle.rights_protocol.specs.Invariant.{SiteInvariant}
use Rattle.rights_protocol.specs.Schedules.{SiteLists}
use Rattle.rights_protocol.specs.Crashes.{Record, lists_of}
use Rattle.site_core.specs.Replaying.{HasLists}
use Rattle.rights_types.specs.declared.moves.Move.{Move}
use Rattle.rights_types.specs.declared.moves.Move.TheVariants.{Issue, Spend, Grant, Give, CloseAt, TakeBack}
use Rattle.rights_types.specs.declared.limits.TheConstants.{MAX_NUMBER}
use Rattle.rights_types.specs.Chains.{moves_of, IsChain, AddsEntry}
use Rattle.rights_types.proofs.Chains.{chain_push}
use Rattle.rights_types.specs.Places.{at_site}
use Rattle.rights_types.proofs.Places.{at_site-index}
use Rattle.rights_types.proofs.SiteSums.{sum_same, sum_zero, sum_risen, sum_bound}
use Rattle.rights_types.proofs.Sums.{moves_of-nil, issued-cons, issued-nil, spent-cons, spent-nil, to-nil}
use Rattle.origin_log.specs.Logs.{LogValue, with_entry, published, all_published}
use Rattle.rights_book.specs.Books.{BookValue, sites, peer, applied_by, held_by, received_by}
use Rattle.rights_book.specs.StandsFor.{StandsForApplied}
use Rattle.rights_book.specs.Leaves.{OwnLeaves, ApplyLeaves}
use Rattle.rights_book.specs.declared.account.Account.{Account}
use Rattle.site_core.specs.Calls.{DeskServes, ServesFront, ServeKeeps, next_push}
use Rattle.site_core.specs.Calls.{published_if, after_publish, after_skip}
use Rattle.site_core.specs.Ledgers.{LedgerValue, EntryKeeps, HasApplied, MoreApplied, owed_by, frontier_of}
use Rattle.site_core.specs.Ledgers.{TakingLeaves, AppliesEntry, ApplyKeeps, closing_by}
use Rattle.site_core.proofs.Protocol.{none_applied}
use Rattle.site_core.specs.Desks.{DeskValue}
use Rattle.thread_parts.specs.SplitCounters.{SplitCounterValue}
use Rattle.command_keys.specs.Books.{KeyBookValue}
use Rattle.apply_lanes.specs.Names.{DeskId, IsUnused}
use Rattle.apply_lanes.specs.Kepts.{KeptValue, IsKept, MatchesBook, HasShards, admitted_count, raised}

-- ---- counters

-- a counter to which nothing was added
pub raised_none : (t : SplitCounterValue) → t ≡ raised t 0
raised_none t = let e : t.sum ≡ t.sum + 0
    = omega arith in ap (λ n. record { sum = n; left = t.left; returned = t.returned }) e

-- both have given out the same shards
record SameShards (t u : SplitCounterValue) : Type 0 where
  left : u.left ≡ t.left
  returned : u.returned ≡ t.returned

raised_shards : (t u : SplitCounterValue) (n : ℕ) → u ≡ raised t n → SameShards t u
raised_shards t u n h = record {
  left = ap (λ (x : SplitCounterValue). x.left) h;
  returned = ap (λ (x : SplitCounterValue). x.returned) h;
}

raised_sum : (t u : SplitCounterValue) (n : ℕ) → u ≡ raised t n → u.sum ≡ t.sum + n
raised_sum t u n h = ap (λ (x : SplitCounterValue). x.sum) h

has_shards : (k : KeptValue) (d : DeskValue) (i s n r : SplitCounterValue) (rs : List Record) → HasShards k → SameShards k.issued i
    → SameShards k.spent s
    → SameShards k.number n → SameShards k.received r
    → HasShards (record k { desk = d; issued = i; spent = s; number = n; received = r; records = rs })
has_shards k d i s n r rs p a b c e = record {
  seats = omega (arith, p.seats, a.left);
  clock = omega (arith, p.clock, a.left);
  both = b.left ∙ p.both ∙ sym a.left;
  places = p.places;
  appliers = omega (arith, p.appliers, c.left);
  both_more = e.left ∙ p.both_more ∙ sym c.left;
  no_issued_back = a.returned ∙ p.no_issued_back;
  no_spent_back = b.returned ∙ p.no_spent_back;
  no_number_back = c.returned ∙ p.no_number_back;
  no_received_back = e.returned ∙ p.no_received_back;
}

-- ---- the sums of the book

same_numbers : (b c : BookValue) → sites c ≡ sites b → ((o : ℕ) → (peer c o).log ≡ (peer b o).log)
    → applied_by c ≡ applied_by b
same_numbers b c same logs =
    ap (λ n. sum_sites n (λ o. (peer c o).log.end)) same
    ∙ sum_same (sites b) (λ o. (peer c o).log.end) (λ o. (peer b o).log.end)
    (λ o _ _. ap (λ (a : Account). a.end) (logs o))

-- the site wrote an entry that issues and spends these amounts
tallied_write : (b c : BookValue) (ms : List Move) (i s n r j t : ℕ) → MatchesBook b i s n r → OwnLeaves b ms c
    → j ≡ i + issued ms → t ≡ s + spent ms
    → MatchesBook c j t n r
tallied_write b c ms i s n r j t is l a e = record {
  issued_is = omega (arith, is.issued_is, l.issues);
  spent_is = omega (arith, is.spent_is, l.spends);
  number_is = is.number_is ∙ sym (same_numbers b c l.same_sites l.same_applied);
  received_is = is.received_is ∙ sym l.same_received;
  numbers = λ o. subst (λ (x : Account). x.end ≤ MAX_NUMBER) (sym (l.same_applied o)) (is.numbers o);
}

-- the site applied the next entry of site o
tallied_apply : (b c : BookValue) (o : ℕ) (e : EntryValue) (i s n r m g : ℕ) → MatchesBook b i s n r
    → ApplyLeaves b o e c → 1 ≤ o → o ≤ sites b
    → e.prev ≡ (peer b o).log.end → own e ≤ MAX_NUMBER → m ≡ n + length e.moves → g ≡ r + to b.me e.moves
    → MatchesBook c i s m g
tallied_apply b c o e i s n r m g is l low high next small more gift =
    let risen : (peer c o).log.end ≡ (peer b o).log.end + length e.moves = omega (arith, l.applied, next) in
    let sum : sum_sites (sites b) (λ k. (peer c k).log.end) ≡ applied_by b + length e.moves =
    sum_risen (sites b) o (length e.moves) (λ k. (peer b k).log.end) (λ k. (peer c k).log.end) low high
    (λ k apart. ap (λ (x : Account). x.end) (l.same_applied k apart)) risen in
    let numbers : applied_by c ≡ applied_by b + length e.moves
    = ap (λ n. sum_sites n (λ k. (peer c k).log.end)) l.same_sites ∙ sum in
    record {
      issued_is = is.issued_is ∙ ap (λ (x : Account). x.issued) (sym l.same_own);
      spent_is = is.spent_is ∙ ap (λ (x : Account). x.spent) (sym l.same_own);
      number_is = omega (arith, is.number_is, numbers);
      received_is = omega (arith, is.received_is, l.receives);
      numbers = λ k. elim (cases_eq k o) [
        | inl same ↦ subst (λ j. (peer c j).log.end ≤ MAX_NUMBER) (sym same) (omega (arith, l.applied))
        | inr apart ↦ subst (λ (x : Account). x.end ≤ MAX_NUMBER) (sym (l.same_applied k apart)) (is.numbers k)
      ];
    }

-- the numbers that were applied of all logs are small
pub numbers_bound : (b : BookValue) (i s n r : ℕ) → MatchesBook b i s n r → sites b ≤ 16 → n ≤ 16000000000
numbers_bound b i s n r is few =
    let each = sum_bound (sites b) 1000000000 (λ o. (peer b o).log.end) is.numbers in
    omega (arith, is.number_is, each)

-- ---- what moves issue and spend

pub issued-issue : (n : ℕ) → issued (Issue n ∷ []) ≡ n
issued-issue n = omega (arith, issued-cons (Issue n) [], issued-nil)

pub spent-issue : (n : ℕ) → spent (Issue n ∷ []) ≡ 0
spent-issue n = omega (arith, spent-cons (Issue n) [], spent-nil)

pub issued-spend : (n : ℕ) → issued (Spend n ∷ []) ≡ 0
issued-spend n = omega (arith, issued-cons (Spend n) [], issued-nil)

pub spent-spend : (n : ℕ) → spent (Spend n ∷ []) ≡ n
spent-spend n = omega (arith, spent-cons (Spend n) [], spent-nil)

pub issued-give : (j n : ℕ) → issued (Give j n ∷ []) ≡ 0
issued-give j n = omega (arith, issued-cons (Give j n) [], issued-nil)

pub spent-give : (j n : ℕ) → spent (Give j n ∷ []) ≡ 0
spent-give j n = omega (arith, spent-cons (Give j n) [], spent-nil)

pub issued-grant : (j n a : ℕ) → issued (Grant j n a ∷ []) ≡ 0
issued-grant j n a = omega (arith, issued-cons (Grant j n a) [], issued-nil)

pub spent-grant : (j n a : ℕ) → spent (Grant j n a ∷ []) ≡ 0
spent-grant j n a = omega (arith, spent-cons (Grant j n a) [], spent-nil)

issued-take_back : (j n : ℕ) → issued (TakeBack j n ∷ []) ≡ 0
issued-take_back j n = omega (arith, issued-cons (TakeBack j n) [], issued-nil)

spent-take_back : (j n : ℕ) → spent (TakeBack j n ∷ []) ≡ 0
spent-take_back j n = omega (arith, spent-cons (TakeBack j n) [], spent-nil)

issued-frontier : (f : List ℕ) → issued (CloseAt f ∷ []) ≡ 0
issued-frontier f = omega (arith, issued-cons (CloseAt f) [], issued-nil)

spent-frontier : (f : List ℕ) → spent (CloseAt f ∷ []) ≡ 0
spent-frontier f = omega (arith, spent-cons (CloseAt f) [], spent-nil)

closes_without : (b : Bool) (j n : ℕ) (f : List ℕ)
    → (issued (cond b [] (Give j n ∷ []) ++ CloseAt f ∷ []) ≡ 0)
    × (spent (cond b [] (Give j n ∷ []) ++ CloseAt f ∷ []) ≡ 0)
closes_without true j n f = (issued-frontier f, spent-frontier f)
closes_without false j n f = (
  omega (arith, issued-cons (Give j n) (CloseAt f ∷ []), issued-frontier f),
  omega (arith, spent-cons (Give j n) (CloseAt f ∷ []), spent-frontier f),
)

-- a closing entry issues and spends nothing
pub nothing_closing : (b : BookValue) (heir : Option ℕ)
    → (issued (closing_by b heir) ≡ 0) × (spent (closing_by b heir) ≡ 0)
nothing_closing b None = (issued-frontier (frontier_of b), spent-frontier (frontier_of b))
nothing_closing b (Some j) = closes_without (held_by b == 0) j (held_by b) (frontier_of b)

-- ---- the lock's value

-- for anything that the desk wrote and applied, if the counters follow its book
kept_by : (id : DeskId) (k : KeptValue) (d : DeskValue) (i s n r : SplitCounterValue) (rs : List Record) → IsKept id k
    → d.ledger.log.site ≡ k.desk.ledger.log.site
    → d.ledger.book.me ≡ k.desk.ledger.book.me → sites d.ledger.book ≡ sites k.desk.ledger.book
    → MatchesBook d.ledger.book i.sum s.sum n.sum r.sum
    → SameShards k.issued i → SameShards k.spent s → SameShards k.number n → SameShards k.received r
    → HasLists (lists_of id.site rs) d
    → IsKept id (record k { desk = d; issued = i; spent = s; number = n; received = r; records = rs })
kept_by id k d i s n r rs is site me count matches_book a b c e protocol = record {
  site = site ∙ is.site;
  same_me = me ∙ is.same_me;
  same_sites = count ∙ is.same_sites;
  few = is.few;
  matches_book = matches_book;
  has_shards = has_shards k d i s n r rs is.has_shards a b c e;
  protocol = protocol;
}

all_same : (t : SplitCounterValue) → SameShards t t
all_same t = record { left = refl; returned = refl }

-- the ledger alone has lists
pub ledger_has : (l : SiteLists) (d e : DeskValue) → e.ledger ≡ d.ledger → HasLists l d → HasLists l e
ledger_has l d e same h = record {
  log = ap (λ (x : LedgerValue). x.log.entries) same ∙ h.log;
  applied = subst (λ (x : LedgerValue). HasApplied l.applied x) (sym same) h.applied;
}

-- log and book are unchanged, and these are the records
pub with_records : (id : DeskId) (k : KeptValue) (d : DeskValue) (rs : List Record) → IsKept id k
    → d.ledger ≡ k.desk.ledger → HasLists (lists_of id.site rs) d → IsKept id (record k { desk = d; records = rs })
with_records id k d rs is same has =
    kept_by id k d k.issued k.spent k.number k.received rs is (ap (λ (l : LedgerValue). l.log.site) same)
    (ap (λ (l : LedgerValue). l.book.me) same)
    (ap (λ (l : LedgerValue). sites l.book) same)
    (subst (λ (l : LedgerValue). MatchesBook l.book k.issued.sum k.spent.sum k.number.sum k.received.sum)
    (sym same) is.matches_book) (all_same k.issued)
    (all_same k.spent) (all_same k.number) (all_same k.received) has

-- .. the same records
pub same_ledger : (id : DeskId) (k : KeptValue) (d : DeskValue) → IsKept id k → d.ledger ≡ k.desk.ledger
    → IsKept id (record k { desk = d })
same_ledger id k d is same =
    with_records id k d k.records is same (ledger_has (lists_of id.site k.records) k.desk d same is.protocol)

-- the log has other cursors, and the same entries
same_entries : (id : DeskId) (k : KeptValue) (log : LogValue) → IsKept id k → log.site ≡ k.desk.ledger.log.site
    → log.entries ≡ k.desk.ledger.log.entries
    → IsKept id (record k { desk = record k.desk { ledger = record k.desk.ledger { log = log } } })
same_entries id k log is site entries =
    let lists : SiteLists = lists_of id.site k.records in
    let h : HasApplied lists.applied k.desk.ledger = is.protocol.applied in
    let kept = subst (λ (x : ℕ × List EntryValue). SiteInvariant (sites k.desk.ledger.book) x.0 x.1 lists.applied)
    (λ i. (sym site i, sym entries i)) h.kept in
    kept_by id k (record k.desk { ledger = record k.desk.ledger { log = log } }) k.issued k.spent k.number k.received
    k.records is site refl refl is.matches_book
    (all_same k.issued) (all_same k.spent) (all_same k.number) (all_same k.received)
    (record { log = entries ∙ is.protocol.log; applied = record { in_book = h.in_book; kept = kept } })

-- entries were published to a peer
published_kept : (id : DeskId) (k : KeptValue) (peer : ℕ) (m : Option MessageValue) → IsKept id k
    → IsKept id (record k {
      desk =
          record k.desk { ledger = record k.desk.ledger { log = published_if k.desk.ledger.log peer m } };
    })
published_kept id k peer None is = is
published_kept id k peer (Some m) is = same_entries id k (published k.desk.ledger.log peer) is refl refl

pub kept_publish : {X E : Type 0} (id : DeskId) (k : KeptValue) (d : DeskValue) (peer : ℕ) (r : Result X E)
    → IsKept id k
    → OnOk r (d ≡ after_publish k.desk peer) → OnErr r (d ≡ k.desk) → IsKept id (record k { desk = d })
kept_publish id k d peer (Ok x) is ok err =
    subst (λ (y : DeskValue). IsKept id (record k { desk = y })) (sym ok)
    (published_kept id k peer (next_push k.desk.ledger.log peer) is)
kept_publish id k d peer (Err e) is ok err = subst (λ (y : DeskValue). IsKept id (record k { desk = y })) (sym err) is

pub kept_skip : (id : DeskId) (k : KeptValue) (d : DeskValue) (peer : ℕ) → IsKept id k → d ≡ after_skip k.desk peer
    → IsKept id (record k { desk = d })
kept_skip id k d peer is same =
    subst (λ (y : DeskValue). IsKept id (record k { desk = y })) (sym same)
    (same_entries id k (all_published k.desk.ledger.log peer) is refl refl)

-- the desk wrote an entry, which issued and spent these amounts; it has the lists of these records
pub kept_write : (id : DeskId) (k : KeptValue) (d : DeskValue) (ms : List Move) (a b : ℕ) (i s : SplitCounterValue)
    (rs : List Record) → IsKept id k
    → d.ledger.log ≡ with_entry k.desk.ledger.log ms → OwnLeaves k.desk.ledger.book ms d.ledger.book
    → HasLists (lists_of id.site rs) d
    → issued ms ≡ a → spent ms ≡ b → i ≡ raised k.issued a → s ≡ raised k.spent b
    → IsKept id (record k { desk = d; issued = i; spent = s; records = rs })
kept_write id k d ms a b i s rs is log l has ia sb more used =
    kept_by id k d i s k.number k.received rs is (ap (λ (x : LogValue). x.site) log) l.same_me l.same_sites
    (tallied_write k.desk.ledger.book d.ledger.book ms k.issued.sum k.spent.sum k.number.sum k.received.sum i.sum s.sum
    is.matches_book l
    (omega (arith, raised_sum k.issued i a more, ia)) (omega (arith, raised_sum k.spent s b used, sb)))
    (raised_shards k.issued i a more) (raised_shards k.spent s b used) (all_same k.number) (all_same k.received) has

-- the book between the take-back of a closing entry and that entry itself
pub tallied_taking : (c : Bool) (b m : BookValue) (o x i s n r : ℕ) → TakingLeaves c b o x m → MatchesBook b i s n r
    → MatchesBook m i s n r × (m.me ≡ b.me) × (sites m ≡ sites b) × ((k : ℕ) → (peer m k).log ≡ (peer b k).log)
tallied_taking true b m o x i s n r same is = (
  subst (λ (y : BookValue). MatchesBook y i s n r) (sym same) is,
  ap (λ (y : BookValue). y.me) same,
  ap (λ (y : BookValue). sites y) same,
  λ k. ap (λ (y : BookValue). (peer y k).log) same,
)
tallied_taking false b m o x i s n r l is = (
  tallied_write b m (TakeBack o x ∷ []) i s n r i s is l (omega (arith, issued-take_back o x))
      (omega (arith, spent-take_back o x)),
  l.same_me,
  l.same_sites,
  l.same_applied,
)

-- ---- what was applied

-- these lists, with one more entry of o
abbrev pub with_one : (ℕ → List EntryValue) → ℕ → EntryValue → ℕ → List EntryValue
with_one applied o e = λ k. cond (k == o) (applied o ++ e ∷ []) (applied k)

pub adds_one : (applied : ℕ → List EntryValue) (o : ℕ) (e : EntryValue) → AddsEntry applied o e (with_one applied o e)
adds_one applied o e = record {
  there = ap (λ b. cond b (applied o ++ e ∷ []) (applied o)) (eq-eqb o o refl);
  elsewhere = λ k apart. ap (λ b. cond b (applied o ++ e ∷ []) (applied k)) (ne_eqb k o apart);
}

-- the next entry of o continues the chain of those that were applied
pub next_applied : (l : LedgerValue) (applied : ℕ → List EntryValue) (o : ℕ) (e : EntryValue) → HasApplied applied l
    → (peer l.book o).log.closed ≡ false
    → e.prev ≡ (peer l.book o).log.end → e.origin ≡ o → IsEntry e → IsChain o (applied o ++ e ∷ [])
next_applied l applied o e h live next of is =
    let sums = h.in_book.sums o in
    chain_push o false 0 (applied o) e (h.kept.chains o) (sym (ap (λ (a : Account). a.closed) sums) ∙ live) of (next
    ∙ ap (λ (a : Account). a.end) sums) is

-- and it was applied
pub has_one : (l m : LedgerValue) (applied : ℕ → List EntryValue) (o : ℕ) (e : EntryValue) → HasApplied applied l
    → (peer l.book o).log.closed ≡ false
    → e.prev ≡ (peer l.book o).log.end → e.origin ≡ o → IsEntry e → MoreApplied l o e m
    → HasApplied (with_one applied o e) m
has_one l m applied o e h live next of is more =
    let adds = adds_one applied o e in
    more.all applied (with_one applied o e) h adds
    (subst (IsChain o) (sym adds.there) (next_applied l applied o e h live next of is))

-- the desk applied the next entry of site o
pub kept_apply : (id : DeskId) (k : KeptValue) (d : DeskValue) (o : ℕ) (e : EntryValue) (n r : SplitCounterValue)
    (rs : List Record) → IsKept id k
    → (a : AppliesEntry k.desk.ledger o e d.ledger) → ApplyKeeps k.desk.ledger o e a.between d.ledger → 1 ≤ o
    → o ≤ id.sites
    → e.prev ≡ (peer k.desk.ledger.book o).log.end → IsEntry e → HasLists (lists_of id.site rs) d
    → n ≡ raised k.number (length e.moves) → r ≡ raised k.received (to id.site e.moves)
    → IsKept id (record k { desk = d; number = n; received = r; records = rs })
kept_apply id k d o e n r rs is applies keeps low high next entry has more gift =
    let old = k.desk.ledger.book in
    let mid = applies.between in
    let new = d.ledger.book in
    let l = keeps.leaves in
    let t = tallied_taking (owed_by k.desk.ledger o e == 0) old mid o (owed_by k.desk.ledger o e) k.issued.sum
    k.spent.sum k.number.sum k.received.sum keeps.taken is.matches_book in
    kept_by id k d k.issued k.spent n r rs is (ap (λ (log : LogValue). log.site) applies.log) (l.same_me
    ∙ t.1) (l.same_sites ∙ t.2)
    (tallied_apply mid new o e k.issued.sum k.spent.sum k.number.sum k.received.sum n.sum r.sum t.0 l low
    (omega (arith, high, t.2, is.same_sites)) (next
    ∙ ap (λ (x : Account). x.end) (sym (t.3 o))) entry.number (raised_sum k.number n (length e.moves) more)
    (raised_sum k.received r (to id.site e.moves) gift
    ∙ ap (λ s. k.received.sum + to s e.moves) (sym (t.1 ∙ is.same_me))))
    (all_same k.issued) (all_same k.spent) (raised_shards k.number n (length e.moves) more)
    (raised_shards k.received r (to id.site e.moves) gift) has

-- what the desk received with that entry
pub gift_is : (id : DeskId) (k : KeptValue) (d : DeskValue) (o : ℕ) (e : EntryValue) → IsKept id k
    → (a : AppliesEntry k.desk.ledger o e d.ledger)
    → ApplyKeeps k.desk.ledger o e a.between d.ledger
    → received_by d.ledger.book ≡ received_by k.desk.ledger.book + to id.site e.moves
gift_is id k d o e is applies keeps =
    let mid = applies.between in
    let t = tallied_taking (owed_by k.desk.ledger o e == 0) k.desk.ledger.book mid o
    (owed_by k.desk.ledger o e) k.issued.sum k.spent.sum k.number.sum k.received.sum keeps.taken is.matches_book in
    keeps.leaves.receives ∙ ap (λ n. n + to mid.me e.moves) (sym t.0.received_is ∙ is.matches_book.received_is)
    ∙ ap (λ s. received_by k.desk.ledger.book + to s e.moves) (t.1 ∙ is.same_me)

-- ---- admitting

-- one more was admitted
pub admit_more : (bs : List Bool) (i : ℕ) (d : Bool) → i < length bs → get_or bs i d ≡ false
    → admitted_count (set bs i true) ≡ admitted_count bs + 1
admit_more bs i d within free =
    let h = sum_by-set (λ (b : Bool). cond b 1 0) bs i true d within in
    omega (arith, h, ap {B = ℕ} (λ b. cond b 1 0) free)

-- one that is free is not counted
pub admit_left : (bs : List Bool) (i : ℕ) (d : Bool) → i < length bs → get_or bs i d ≡ false
    → admitted_count bs + 1 ≤ length bs
admit_left bs i d within free =
    let h = count_by-le-length (λ b. b) (set bs i true) in
    omega (arith, admit_more bs i d within free, h, length-set bs i true)

-- the site at that index was admitted
pub kept_admit : (id : DeskId) (k : KeptValue) (i : ℕ) (n r : SplitCounterValue) → IsKept id k → i < 16
    → get_or k.admitted i false ≡ false
    → n ≡ record k.number { left = n.left } → n.left + 1 ≡ k.number.left → r ≡ record k.received { left = r.left }
    → r.left + 1 ≡ k.received.left
    → IsKept id (record k { number = n; received = r; admitted = set k.admitted i true })
kept_admit id k i n r is within free of_number less of_received fewer =
    let p = is.has_shards in
    let t = is.matches_book in
    let more = admit_more k.admitted i false (omega (arith, p.places)) free in
    record {
      site = is.site;
      same_me = is.same_me;
      same_sites = is.same_sites;
      few = is.few;
      matches_book = record {
        issued_is = t.issued_is;
        spent_is = t.spent_is;
        number_is = ap (λ (x : SplitCounterValue). x.sum) of_number ∙ t.number_is;
        received_is = ap (λ (x : SplitCounterValue). x.sum) of_received ∙ t.received_is;
        numbers = t.numbers;
      };
      has_shards = record {
        seats = p.seats;
        clock = p.clock;
        both = p.both;
        places = length-set k.admitted i true ∙ p.places;
        appliers = omega (arith, p.appliers, more, less);
        both_more = omega (arith, p.both_more, less, fewer);
        no_issued_back = p.no_issued_back;
        no_spent_back = p.no_spent_back;
        no_number_back = ap (λ (x : SplitCounterValue). x.returned) of_number ∙ p.no_number_back;
        no_received_back = ap (λ (x : SplitCounterValue). x.returned) of_received ∙ p.no_received_back;
      };
      protocol = is.protocol;
    }

-- a shard is left for each site that was not admitted
pub shard_left : (k : KeptValue) (i : ℕ) (d : Bool) → HasShards k → i < 16 → get_or k.admitted i d ≡ false
    → 1 ≤ k.number.left
shard_left k i d p within free
    = omega (arith, admit_left k.admitted i d (omega (arith, p.places)) free, p.appliers, p.places)

-- the same, for a site
pub free_site : (bs : List Bool) (o : ℕ) → 1 ≤ o → o ≤ length bs → get_or bs (o - 1) false ≡ false
    → at_site bs o true ≡ false
free_site bs o low high free =
    at_site-index bs (o - 1) o true (omega arith) ∙ get_or_default bs (o - 1) true false (omega arith) ∙ free

-- ---- the start

nothing_numbered : (b : BookValue) → StandsForApplied (λ o. []) b → applied_by b ≡ 0
nothing_numbered b h =
    sum_same (sites b) (λ o. (peer b o).log.end) (λ o. 0) (λ o _ _. ap (λ (a : Account). a.end) (h.sums o))
    ∙ sum_zero (sites b)

nothing_received : (b : BookValue) → StandsForApplied (λ o. []) b → sum_sites (sites b) (λ o. (peer b o).received) ≡ 0
nothing_received b h =
    sum_same (sites b) (λ o. (peer b o).received) (λ o. 0) (λ o _ _. h.received_are o ∙ ap (to b.me) moves_of-nil
    ∙ to-nil b.me) ∙ sum_zero (sites b)

-- the sums of a desk that wrote and applied nothing are 0
pub nothing_tallied : (d : DeskValue) → IsUnused d → d.ledger.book.own.issued ≡ issued (moves_of d.ledger.log.entries)
    → d.ledger.book.own.spent ≡ spent (moves_of d.ledger.log.entries)
    → received_by d.ledger.book ≡ sum_sites (sites d.ledger.book) (λ o. (peer d.ledger.book o).received)
    → MatchesBook d.ledger.book 0 0 0 0
nothing_tallied d is i s r =
    let none : moves_of d.ledger.log.entries ≡ [] = ap moves_of is.nothing_written ∙ moves_of-nil in
    record {
      issued_is = sym (i ∙ ap issued none ∙ issued-nil);
      spent_is = sym (s ∙ ap spent none ∙ spent-nil);
      number_is = sym (nothing_numbered d.ledger.book is.nothing_applied);
      received_is = sym (r ∙ nothing_received d.ledger.book is.nothing_applied);
      numbers = λ o. omega (arith, ap (λ (a : Account). a.end) (is.nothing_applied.sums o));
    }

-- what a journal was handed does not matter to it
pub any_handed : {id : DeskId} {k : KeptValue} (handed : List Record) (lines : Option ℕ) → IsKept id k
    → IsKept id (record k { handed = handed; lines = lines })
any_handed handed lines is = record {
  site = is.site;
  same_me = is.same_me;
  same_sites = is.same_sites;
  few = is.few;
  matches_book = is.matches_book;
  has_shards = record {
    seats = is.has_shards.seats;
    clock = is.has_shards.clock;
    both = is.has_shards.both;
    places = is.has_shards.places;
    appliers = is.has_shards.appliers;
    both_more = is.has_shards.both_more;
    no_issued_back = is.has_shards.no_issued_back;
    no_spent_back = is.has_shards.no_spent_back;
    no_number_back = is.has_shards.no_number_back;
    no_received_back = is.has_shards.no_received_back;
  };
  protocol = is.protocol;
}

pub opens : (id : DeskId) (d : DeskValue) (i s n r : SplitCounterValue) (bs : List Bool) (rs handed : List Record)
    (lines : Option ℕ) (keys : KeyBookValue)
    → id.site ≡ d.ledger.log.site
    → id.sites ≡ sites d.ledger.book
    → d.ledger.book.me ≡ d.ledger.log.site → sites d.ledger.book ≤ 16 → MatchesBook d.ledger.book 0 0 0 0
    → i ≡ record { sum = 0; left = 65; returned = 0 }
    → s ≡ record { sum = 0; left = 65; returned = 0 } → n ≡ record { sum = 0; left = 16; returned = 0 }
    → r ≡ record { sum = 0; left = 16; returned = 0 }
    → length bs ≡ 16 → admitted_count bs ≡ 0 → IsUnused d → rs ≡ []
    → IsKept id (record {
      desk = d;
      issued = i;
      spent = s;
      number = n;
      received = r;
      admitted = bs;
      clock_given = false;
      records = rs;
      handed = handed;
      lines = lines;
      keys = keys;
    })
opens id d i s n r bs rs handed lines keys site count me few matches_book hi hs hn hr places none unused empty = record {
  site = sym site;
  same_me = me ∙ sym site;
  same_sites = sym count;
  few = omega (arith, count);
  matches_book = record {
    issued_is = ap (λ (t : SplitCounterValue). t.sum) hi ∙ matches_book.issued_is;
    spent_is = ap (λ (t : SplitCounterValue). t.sum) hs ∙ matches_book.spent_is;
    number_is = ap (λ (t : SplitCounterValue). t.sum) hn ∙ matches_book.number_is;
    received_is = ap (λ (t : SplitCounterValue). t.sum) hr ∙ matches_book.received_is;
    numbers = matches_book.numbers;
  };
  has_shards = record {
    seats = omega (arith, ap (λ (t : SplitCounterValue). t.left) hi);
    clock = omega (arith, ap (λ (t : SplitCounterValue). t.left) hi);
    both = ap (λ (t : SplitCounterValue). t.left) hs ∙ sym (ap (λ (t : SplitCounterValue). t.left) hi);
    places = places;
    appliers = omega (arith, ap (λ (t : SplitCounterValue). t.left) hn, none);
    both_more = ap (λ (t : SplitCounterValue). t.left) hr ∙ sym (ap (λ (t : SplitCounterValue). t.left) hn);
    no_issued_back = ap (λ (t : SplitCounterValue). t.returned) hi;
    no_spent_back = ap (λ (t : SplitCounterValue). t.returned) hs;
    no_number_back = ap (λ (t : SplitCounterValue). t.returned) hn;
    no_received_back = ap (λ (t : SplitCounterValue). t.returned) hr;
  };
  protocol = subst (λ more. HasLists (lists_of id.site more) d) (sym empty) (record {
    log = unused.nothing_written;
    applied = none_applied d.ledger unused.nothing_written unused.nothing_applied;
  });
}

-- ---- serving

-- the request at the front was served: its amount is what the desk spent with it
pub record IsServed (old : DeskValue) (ticket number spent : ℕ) (new : DeskValue) : Type 0 where
  pub serves : ServesFront old ticket number new
  pub keeps : EntryKeeps old.ledger (Spend serves.amount ∷ []) new.ledger
  pub amount : serves.amount ≡ spent

pub served : (old new : DeskValue) (answer : Option (ℕ × ℕ)) (ticket number before after : ℕ)
    → DeskServes old answer new → ServeKeeps old answer new
    → answer ≡ Some (ticket, number) → before ≡ old.ledger.book.own.spent → after ≡ new.ledger.book.own.spent
    → IsServed old ticket number (after - before) new
served old new answer ticket number before after ok kept is b a =
    let serves : ServesFront old ticket number new = subst (λ s. DeskServes old s new) is ok in
    let all : ServeKeeps old (Some (ticket, number)) new = subst (λ s. ServeKeeps old s new) is kept in
    let keeps = all serves.amount serves.deadline serves.front in
    record {
      serves = serves;
      keeps = keeps;
      amount = omega (arith, keeps.leaves.spends, spent-spend serves.amount, b, a);
    }
