-- The protocol's fact of a site, by its log, its book and what it applied.
use Rattle.std.proofs.Common.{◌≡◌, ◌≢◌, ℕ, ◌+◌, ◌<◌, ◌≤◌, eqb, true, false, List, [], ◌∷◌, ◌++◌, length, map, None, suc}
use Rattle.std.proofs.Common.{refl, ap, sym, subst, ◌∙◌, arith}
use Rattle.std.specs.List.{All, list_any, range_with_len}
use Rattle.std.proofs.lemmas.Bool.{or_parts, both_ways, ne_eqb}
use Rattle.std.proofs.lemmas.List.{ext_get_or, get_or-map, length-map}
use Rattle.std.proofs.lemmas.List.FromFn.{get_or-map-range_with_len, length-map-range_with_len}
use Rattle.std.proofs.lemmas.List.Elements.{All-nil, All-cons}
use Rattle.rights_types.specs.Entries.{EntryValue}
use Rattle.rights_types.specs.Chains.{end, is_closed, IsChain, AddsEntry}
use Rattle.rights_types.specs.Moves.{IsMove, names}
use Rattle.rights_types.specs.Rights.{covers, held}
use Rattle.rights_types.specs.declared.moves.Move.{Move}
use Rattle.rights_types.specs.declared.moves.Move.TheVariants.{Issue, Spend, Grant, Give, Close, CloseAt, TakeBack}
use Rattle.rights_protocol.specs.Lists.{IsSiteOf}
use Rattle.rights_protocol.specs.Retiring.{own_frontier, entry_at_end, one_taking}
use Rattle.rights_protocol.specs.Writing.{is_plain, MayAppend}
use Rattle.rights_protocol.specs.Invariant.{SiteInvariant}
use Rattle.rights_protocol.specs.Laws.{SiteGoesOn}
use Rattle.rights_protocol.proofs.Sites.{site_starts}
use Rattle.rights_protocol.proofs.OneSite.{site_goes_on}
use Rattle.origin_log.specs.Logs.{with_entry, is_special}
use Rattle.rights_book.specs.Books.{BookValue, sites, account, held_by, IsBook}
use Rattle.rights_book.specs.Checks.{names_above, gives_to_closed, check_fault}
use Rattle.rights_book.specs.Peers.{no_peer}
use Rattle.rights_book.specs.StandsFor.{StandsForApplied}
use Rattle.rights_book.specs.declared.account.Account.{Account}
use Rattle.rights_book.specs.declared.peer.Peer.{Peer}
use Rattle.rights_book.proofs.CallLaws.{other_account}
use Rattle.rights_book.proofs.CheckLaws.{IsChecked, checked, named_within}
use Rattle.rights_book.proofs.StandLaws.{held_stands}
use Rattle.site_core.specs.Ledgers.{LedgerValue, IsLedger, HasApplied, frontier_of, IsWritable, SameApplied}
use Rattle.site_core.specs.Ledgers.{MoreApplied, owed_by, with_takings}
use Rattle.site_core.proofs.LedgerLaws.{no_cause, HasRoom, has_room}

-- ---- what the book says, in the protocol's words

abbrev pub last_number : Peer → ℕ
last_number p = p.log.end

-- the book's frontier is that of what was applied
pub frontier_applied : (b : BookValue) (applied : ℕ → List EntryValue) → StandsForApplied applied b
    → frontier_of b ≡ own_frontier (sites b) applied
unfolding frontier_of
frontier_applied b applied s =
    let f : ℕ → ℕ = λ o. end (applied o) in
    let long : length (map last_number b.peers) ≡ sites b = length-map b.peers last_number in
    ext_get_or 0 (map last_number b.peers) (map f (range_with_len 1 (sites b))) (long
    ∙ sym (length-map-range_with_len f 1 (sites b)))
    (λ i lt. (let within : i < sites b = omega (arith, long, lt) in
    let next : 1 + i ≡ suc i = omega arith in
    get_or-map last_number b.peers i no_peer 0 within ∙ ap (λ (a : Account). a.end) (s.sums (suc i))
    ∙ sym (get_or-map-range_with_len f 1 (sites b) i (suc i) 0 within next)))

-- a ledger whose site applied this, as the protocol sees it
pub record IsSiteState (applied : ℕ → List EntryValue) (l : LedgerValue) : Type 0 where
  pub some : 2 ≤ sites l.book
  pub few : sites l.book ≤ 16
  pub site : IsSiteOf (sites l.book) l.log.site
  pub held : held_by l.book ≡ held (sites l.book) l.log.site l.log.entries applied
  pub frontier : frontier_of l.book ≡ own_frontier (sites l.book) applied
  pub closed : (c : ℕ) → c ≢ l.book.me → (account l.book c).closed ≡ is_closed (applied c)
  pub itself : applied l.book.me ≡ []
  pub kept : SiteInvariant (sites l.book) l.log.site l.log.entries applied

pub site_state : (l : LedgerValue) (applied : ℕ → List EntryValue) → IsLedger l → IsBook l.book → HasApplied applied l
    → IsSiteState applied l
site_state l applied is book h =
    let n : ℕ = sites l.book in
    record {
      some = book.some;
      few = book.few;
      site = subst (IsSiteOf n) is.same_site book.member;
      held = held_stands l.book l.log.entries applied book (record { of_own = is.own; of_applied = h.in_book })
          ∙ ap (λ s. held n s l.log.entries applied) is.same_site;
      frontier = frontier_applied l.book applied h.in_book;
      closed = λ c ne. ap (λ (a : Account). a.closed) (other_account l.book c ne ∙ h.in_book.sums c);
      itself = h.in_book.none_own;
      kept = h.kept;
    }

-- at the start nothing was applied
pub none_applied : (l : LedgerValue) → l.log.entries ≡ [] → StandsForApplied (λ o. []) l.book → HasApplied (λ o. []) l
none_applied l empty stands
    = record {
      in_book = stands;
      kept = site_starts (sites l.book) l.log.site l.log.entries (λ o. []) empty (λ o. refl);
    }

-- ---- an ordinary entry

plain_move : (m : Move) → is_special m ≡ false → is_plain m ≡ true
plain_move (Issue n) h = refl
plain_move (Spend n) h = refl
plain_move (Grant j n a) h = refl
plain_move (Give j n) h = refl
plain_move Close h = absurd cc
plain_move (CloseAt f) h = absurd cc
plain_move (TakeBack j n) h = absurd cc

plain_moves : (ms : List Move) → list_any is_special ms ≡ false → All (λ m. is_plain m ≡ true) ms
plain_moves [] h = All-nil (λ m. is_plain m ≡ true)
plain_moves (m ∷ ms) h =
    let p = or_parts (is_special m) (list_any is_special ms) h in
    All-cons (λ x. is_plain x ≡ true) m ms (plain_move m p.0) (plain_moves ms p.1)

-- whoever gives nothing to a closed site does not give to this one
not_it : (b : BookValue) (j c : ℕ) → (account b c).closed ≡ true → (account b j).closed ≡ false → eqb j c ≡ false
not_it b j c shut free = ne_eqb j c
    (λ e. both_ways (account b c).closed (subst (λ k. (account b k).closed ≡ false) e free) shut)

unnamed : (b : BookValue) (c : ℕ) (m : Move) → (account b c).closed ≡ true → is_special m ≡ false
    → gives_to_closed b m ≡ false → names c m ≡ false
unnamed b c (Issue n) shut h free = refl
unnamed b c (Spend n) shut h free = refl
unnamed b c (Grant j n a) shut h free = not_it b j c shut free
unnamed b c (Give j n) shut h free = not_it b j c shut free
unnamed b c Close shut h free = refl
unnamed b c (CloseAt f) shut h free = refl
unnamed b c (TakeBack j n) shut h free = absurd cc

none_named : (b : BookValue) (c : ℕ) (ms : List Move) → (account b c).closed ≡ true → list_any is_special ms ≡ false
    → list_any (gives_to_closed b) ms ≡ false → list_any (names c) ms ≡ false
none_named b c [] shut h free = refl
none_named b c (m ∷ ms) shut h free =
    let p = or_parts (is_special m) (list_any is_special ms) h in
    let q = or_parts (gives_to_closed b m) (list_any (gives_to_closed b) ms) free in
    rw (unnamed b c m shut p.0 q.0) (none_named b c ms shut p.1 q.1)

open_receivers : (b : BookValue) (ms : List Move) → check_fault b ms ≡ None → list_any (gives_to_closed b) ms ≡ false
unfolding check_fault
open_receivers b ms h =
    let above = no_cause (list_any (names_above (sites b)) ms) _ _ h in
    let same = no_cause (list_any (names b.me) ms) _ _ above.1 in
    let closed = no_cause (list_any (gives_to_closed b) ms) _ _ same.1 in
    closed.0

pub may_append : (l : LedgerValue) (ms : List Move) (applied : ℕ → List EntryValue) → IsLedger l → All IsMove ms
    → IsWritable l ms → IsSiteState applied l
    → MayAppend (sites l.book) l.log.site l.log.entries applied ms
may_append l ms applied is ranges ok state =
    let room : HasRoom l.log ms = has_room l.log ms ok.room in
    let tested : IsChecked l.book ms = checked l.book ms ok.covered in
    record {
      unclosed = room.unclosed;
      some = room.some;
      few = room.few;
      moves = ranges;
      plain = plain_moves ms ok.plain;
      within = named_within (sites l.book) ms ranges tested.within;
      others = subst (λ s. list_any (names s) ms ≡ false) is.same_site tested.others;
      open_peers = λ c closed.
          (let ne : c ≢ l.book.me = λ e. both_ways (is_closed (applied c)) (ap is_closed (ap applied e
          ∙ state.itself)) closed in
          none_named l.book c ms (state.closed c ne ∙ closed) ok.plain (open_receivers l.book ms ok.covered));
      fits = room.within;
      holds = subst (λ r. covers r ms ≡ true) state.held tested.covered;
    }

-- ---- what was applied is so still

pub goes_on : (l : LedgerValue) (applied : ℕ → List EntryValue) → IsSiteState applied l
    → SiteGoesOn (sites l.book) l.log.site l.log.entries applied
goes_on l applied state = site_goes_on (sites l.book) l.log.site l.log.entries applied state.some state.few
    state.site state.kept

-- an entry that the protocol allows, in log and book
pub same_applied : (old new : LedgerValue) (ms : List Move) → new.log ≡ with_entry old.log ms
    → sites new.book ≡ sites old.book
    → ((applied : ℕ → List EntryValue) → StandsForApplied applied old.book → StandsForApplied applied new.book)
    → ((applied : ℕ → List EntryValue) → HasApplied applied old
    → SiteInvariant (sites old.book) old.log.site (old.log.entries ++ entry_at_end old.log.site old.log.entries ms
    ∷ []) applied)
    → SameApplied old new
same_applied old new ms log same in_book kept = record {
  in_book = in_book;
  all = λ applied h. record { in_book = in_book applied h.in_book; kept = rw (same, log) (kept applied h) };
}

pub written_applied : (old new : LedgerValue) (ms : List Move) → IsLedger old → IsBook old.book → All IsMove ms
    → IsWritable old ms → new.log ≡ with_entry old.log ms → sites new.book ≡ sites old.book
    → ((applied : ℕ → List EntryValue) → StandsForApplied applied old.book → StandsForApplied applied new.book)
    → SameApplied old new
written_applied old new ms is book ranges ok log same in_book =
    same_applied old new ms log same in_book
    (λ applied h. (let state : IsSiteState applied old = site_state old applied is book h in
    (goes_on old applied state).appends ms (may_append old ms applied is ranges ok state)))

-- the next entry of another site, and what is reclaimed by it
pub applied_more : (old new : LedgerValue) (o : ℕ) (e : EntryValue) → IsLedger old → IsBook old.book → 1 ≤ o
    → o ≤ sites old.book → o ≢ old.book.me → is_closed old.log.entries ≡ false
    → new.log ≡ with_takings old.log (one_taking o (owed_by old o e)) → sites new.book ≡ sites old.book
    → ((applied later : ℕ → List EntryValue) → StandsForApplied applied old.book → AddsEntry applied o e later
    → StandsForApplied later new.book) → MoreApplied old o e new
applied_more old new o e is book low high other unclosed log same in_book = record {
  in_book = in_book;
  all = λ applied later h adds chain.
      (let goes = goes_on old applied (site_state old applied is book h) in
      let longer : IsChain o (applied o ++ e ∷ []) = subst (IsChain o) adds.there chain in
      let kept = goes.takes o e later (low, high) (λ q. other (sym (is.same_site ∙ q))) unclosed longer adds in
      record { in_book = in_book applied later h.in_book adds; kept = rw (same, log) kept });
}
