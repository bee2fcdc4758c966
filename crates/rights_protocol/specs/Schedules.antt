-- Sites that run independently, in threads or processes: what is promised of them in every schedule.
--
-- Each step of a site changes only the lists of that site. Let the steps be interleaved in any order. As long as what
-- a site applies of a log is in that log (one writer for each log), the headline and retirement hold at each moment
-- (`AnySchedule`). They also hold of any cut, where each site is read at a moment of its own (`AnyCut`): that needs no
-- history, and no order of what happened.
use Rattle.std.specs.Prelude.{◌≡◌, ◌≢◌, ℕ, ◌≤◌, false, List, [], ◌∷◌, ◌++◌, Option}
use Rattle.std.specs.List.{Contains}
use Rattle.rights_types.specs.Entries.{EntryValue}
use Rattle.rights_types.specs.Chains.{is_closed, IsChain, IsPrefix, moves_of, AddsEntry}
use Rattle.rights_types.specs.Rights.{back}
use Rattle.rights_types.specs.declared.limits.TheConstants.{MIN_SITES, MAX_SITES}
use Rattle.rights_types.specs.declared.moves.Move.{Move}
use Rattle.rights_protocol.specs.Lists.{Lists, IsSiteOf}
use Rattle.rights_protocol.specs.Retiring.{entry_at_end, taking_back}
use Rattle.rights_protocol.specs.Writing.{MayAppend, MayClose, closing_moves}
use Rattle.rights_protocol.specs.Changes.{Change, Append, Offer, Take, CloseSite, Nothing, Runs, Start}
use Rattle.rights_protocol.specs.Invariant.{SiteInvariant}
use Rattle.rights_protocol.specs.Retirement.{Promised}
use Rattle.rights_protocol.specs.CounterLaws.{ListsCount}

-- ---- the lists of one site, and of all

-- its log, and what it applied of each other site's log
pub record SiteLists : Type 0 where
  pub log : List EntryValue
  pub applied : ℕ → List EntryValue

pub record SameLists (old new : SiteLists) : Type 0 where
  pub log : new.log ≡ old.log
  pub applied : (o : ℕ) → new.applied o ≡ old.applied o

-- nothing written, nothing applied
pub record IsFresh (lists : SiteLists) : Type 0 where
  pub log : lists.log ≡ []
  pub applied : (o : ℕ) → lists.applied o ≡ []

-- The lists of n sites, as the protocol has them. What reached a site, and what was delivered to it, is read as what
-- it applied: no other site reads these lists, so an entry may as well arrive just before it is applied.
abbrev pub together : ℕ → (ℕ → SiteLists) → Lists
together n sites = record {
  count = n;
  log = λ s. (sites s).log;
  reached = λ s. (sites s).applied;
  put = λ s. (sites s).applied;
  applied = λ s. (sites s).applied;
}

-- ---- a step of one site

-- a change that a site may make to its lists
pub data LocalChange : Type 0 where
  -- it writes an ordinary entry of these moves
  Write : List Move → LocalChange
  -- it applies this entry, the next one of the log of o
  Apply : ℕ → EntryValue → LocalChange
  -- it closes, with an heir or none
  Retire : Option ℕ → LocalChange
  -- it does something else, which leaves these lists as they are
  Other : LocalChange

-- s writes an entry that the protocol lets it write: it issues, or spends or gives what it holds
pub record WritesOwn (n s : ℕ) (old : SiteLists) (ms : List Move) (new : SiteLists) : Type 0 where
  pub may : MayAppend n s old.log old.applied ms
  pub log : new.log ≡ old.log ++ entry_at_end s old.log ms ∷ []
  pub applied : (o : ℕ) → new.applied o ≡ old.applied o

-- s, not closed, applies the next entry of o; if that closes with a frontier, s reclaims what it is owed in the same
-- step
pub record AppliesNext (n s : ℕ) (old : SiteLists) (o : ℕ) (e : EntryValue) (new : SiteLists) : Type 0 where
  pub from : IsSiteOf n o
  pub differ : s ≢ o
  pub unclosed : is_closed old.log ≡ false
  pub next : IsChain o (old.applied o ++ e ∷ [])
  pub applied : AddsEntry old.applied o e new.applied
  pub log : new.log ≡ old.log ++ taking_back s o old.log e

-- s writes its closing entry
pub record Retires (n s : ℕ) (old : SiteLists) (heir : Option ℕ) (new : SiteLists) : Type 0 where
  pub may : MayClose n s old.log old.applied heir
  pub log : new.log ≡ old.log ++ entry_at_end s old.log (closing_moves n s old.log old.applied heir) ∷ []
  pub applied : (o : ℕ) → new.applied o ≡ old.applied o

-- One step of s, one of n sites. It names no other site's lists.
abbrev pub LocalStep : ℕ → ℕ → SiteLists → LocalChange → SiteLists → Type 0
LocalStep n s old (Write ms) new = WritesOwn n s old ms new
LocalStep n s old (Apply o e) new = AppliesNext n s old o e new
LocalStep n s old (Retire heir) new = Retires n s old heir new
LocalStep n s old Other new = SameLists old new

-- these steps of s, one after another
abbrev pub LocalRun : ℕ → ℕ → SiteLists → List LocalChange → SiteLists → Type 0
LocalRun n s old [] new = SameLists old new
LocalRun n s old (change ∷ changes) new = (mid : SiteLists) × LocalStep n s old change mid
    × LocalRun n s mid changes new

-- each step of a site preserves the invariant of that site
abbrev pub LocalKeeps : Type 0
LocalKeeps = (n s : ℕ) (old : SiteLists) (change : LocalChange) (new : SiteLists) → MIN_SITES ≤ n → n ≤ MAX_SITES
    → IsSiteOf n s
    → SiteInvariant n s old.log old.applied → LocalStep n s old change new → SiteInvariant n s new.log new.applied

-- so the invariant holds of a site after any such steps from the start, whatever the others did
abbrev pub LocalRunKept : Type 0
LocalRunKept = (n s : ℕ) (start : SiteLists) (changes : List LocalChange) (now : SiteLists) → MIN_SITES ≤ n
    → n ≤ MAX_SITES → IsSiteOf n s
    → IsFresh start → LocalRun n s start changes now → SiteInvariant n s now.log now.applied

-- ---- a cut

-- The lists of each of n sites at some moment between two of its steps. The moments may differ, and the sites may have
-- reached these lists in any way.
pub record IsCut (n : ℕ) (sites : ℕ → SiteLists) : Type 0 where
  pub some : MIN_SITES ≤ n
  pub few : n ≤ MAX_SITES
  -- the invariant of each site alone
  pub kept : (s : ℕ) → IsSiteOf n s → SiteInvariant n s (sites s).log (sites s).applied
  -- one writer: what a site applied of a log is a prefix of that log
  pub begins : (s o : ℕ) → IsSiteOf n s → IsPrefix ((sites s).applied o) (sites o).log
  -- a number that no site has comes with no entries
  pub others : (k : ℕ) → ¬ IsSiteOf n k → IsFresh (sites k)

-- everything that is promised of the protocol's lists, and that they form a Bounded Counter
pub record AllPromised (w : Lists) : Type 0 where
  pub promised : Promised w
  pub counts : ListsCount w
  -- no entry that a site applied reclaims anything from that site
  pub untouched : (s o : ℕ) → IsSiteOf w.count o → back s (moves_of (w.applied s o)) ≡ 0

abbrev pub AnyCut : Type 0
AnyCut = (n : ℕ) (sites : ℕ → SiteLists) → IsCut n sites → AllPromised (together n sites)

-- ---- a schedule

-- Sites take turns, in any order. A turn is one step of one site.
pub record Turn : Type 0 where
  pub site : ℕ
  pub change : LocalChange

-- one writer: an entry of o that is applied is in the log of o by then
abbrev pub IsSent : (ℕ → SiteLists) → LocalChange → Type 0
IsSent sites (Apply o e) = Contains (sites o).log e
IsSent sites change = Unit {0}

pub record TakesTurn (n : ℕ) (old : ℕ → SiteLists) (turn : Turn) (new : ℕ → SiteLists) : Type 0 where
  pub site : IsSiteOf n turn.site
  pub step : LocalStep n turn.site (old turn.site) turn.change (new turn.site)
  pub sent : IsSent old turn.change
  pub others : (k : ℕ) → k ≢ turn.site → SameLists (old k) (new k)

abbrev pub Schedule : ℕ → (ℕ → SiteLists) → List Turn → (ℕ → SiteLists) → Type 0
Schedule n old [] new = (k : ℕ) → SameLists (old k) (new k)
Schedule n old (turn ∷ turns) new = (mid : ℕ → SiteLists) × TakesTurn n old turn mid × Schedule n mid turns new

-- n sites that have done nothing
pub record AllFresh (n : ℕ) (sites : ℕ → SiteLists) : Type 0 where
  pub some : MIN_SITES ≤ n
  pub few : n ≤ MAX_SITES
  pub each : (s : ℕ) → IsFresh (sites s)

-- a step of s as changes of the protocol: an apply is an offer and then a take
abbrev pub changes_by : ℕ → LocalChange → List Change
changes_by s (Write ms) = Append s ms ∷ []
changes_by s (Apply o e) = Offer s o e ∷ (Take s o ∷ [])
changes_by s (Retire heir) = CloseSite s heir ∷ []
changes_by s Other = Nothing ∷ []

abbrev pub changes_of : List Turn → List Change
changes_of [] = []
changes_of (turn ∷ turns) = changes_by turn.site turn.change ++ changes_of turns

-- P holds before the first of these turns, between any two and after the last
abbrev pub AtEachMoment : (P : Lists → Type 0) (n : ℕ) (old : ℕ → SiteLists) (turns : List Turn) (new : ℕ → SiteLists)
    → Schedule n old turns new → Type 0
AtEachMoment P n old [] new schedule = P (together n old) × P (together n new)
AtEachMoment P n old (turn ∷ turns) new schedule = P (together n old) × AtEachMoment P n schedule.0 turns new schedule.2

pub record FollowsProtocol (n : ℕ) (start : ℕ → SiteLists) (turns : List Turn)
    (now : ℕ → SiteLists) (schedule : Schedule n start turns now) : Type 0 where
  -- it is a run of the protocol from its start, by these changes
  pub from_start : Start n (together n start)
  pub run : Runs (together n start) (changes_of turns) (together n now)
  -- so everything that is promised holds whenever no site is in the middle of a step
  pub promised : AtEachMoment AllPromised n start turns now schedule

abbrev pub AnySchedule : Type 0
AnySchedule = (n : ℕ) (start : ℕ → SiteLists) (turns : List Turn) (now : ℕ → SiteLists) → AllFresh n start
    → (schedule : Schedule n start turns now) → FollowsProtocol n start turns now schedule
