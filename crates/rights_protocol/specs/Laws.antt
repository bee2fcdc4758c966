-- The laws of the protocol.
use Rattle.std.specs.Prelude.{◌≡◌, ◌≢◌, ℕ, ◌+◌, ◌<◌, ◌≤◌, true, false, List, [], ◌∷◌, ◌++◌, Option}
use Rattle.rights_types.specs.Entries.{EntryValue}
use Rattle.rights_types.specs.Chains.{end, is_closed, IsChain, moves_of, AddsEntry}
use Rattle.rights_types.specs.Rights.{to, back, received, held}
use Rattle.rights_types.specs.declared.limits.TheConstants.{MIN_SITES, MAX_SITES, LAST_APPEND, MAX_TOTAL, MAX_RECEIVED}
use Rattle.rights_types.specs.declared.limits.TheConstants.{MAX_HELD_RIGHTS}
use Rattle.rights_types.specs.declared.moves.Move.{Move}
use Rattle.rights_protocol.specs.Lists.{Lists, IsSiteOf}
use Rattle.rights_protocol.specs.Retiring.{frontier, owed, entry_at_end, taking_back}
use Rattle.rights_protocol.specs.Writing.{MayAppend, MayClose, closing_moves}
use Rattle.rights_protocol.specs.Changes.{Change, Step, Runs, Start}
use Rattle.rights_protocol.specs.Invariant.{SiteInvariant, Invariant}
use Rattle.rights_protocol.specs.Retirement.{AppliedClose, Promised}

-- ---- every run

-- P holds of the lists before the first of these changes, between any two and after the last
abbrev pub AllAlong : (Lists → Type 0) → (old : Lists) → (changes : List Change) → (new : Lists)
    → Runs old changes new → Type 0
AllAlong P old [] new run = P old × P new
AllAlong P old (change ∷ changes) new run = P old × AllAlong P run.0 changes new run.2

-- all that is promised holds at each moment of each run from the start
abbrev pub EveryMoment : Type 0
EveryMoment = (n : ℕ) (start : Lists) (changes : List Change) (new : Lists) → Start n start
    → (run : Runs start changes new) → AllAlong Promised start changes new run

-- so it holds of the lists that a run leads to
abbrev pub EveryRun : Type 0
EveryRun = (n : ℕ) (start : Lists) (changes : List Change) (new : Lists) → Start n start → Runs start changes new
    → Promised new

-- ---- by what is kept

abbrev pub StartKept : Type 0
StartKept = (n : ℕ) (w : Lists) → Start n w → Invariant w

abbrev pub StepKeeps : Type 0
StepKeeps = (old : Lists) (change : Change) (new : Lists) → Invariant old → Step old change new → Invariant new

abbrev pub KeptPromises : Type 0
KeptPromises = (w : Lists) → Invariant w → Promised w

-- ---- for good

-- a closed site stays closed, and no applied list of it changes
abbrev pub ClosedForGood : Type 0
ClosedForGood = (old : Lists) (changes : List Change) (new : Lists) (c : ℕ) → Runs old changes new
    → is_closed (old.log c) ≡ true
    → (is_closed (new.log c) ≡ true) × ((o : ℕ) → new.applied c o ≡ old.applied c o)

-- a closing entry that was applied stays applied
abbrev pub AppliedForGood : Type 0
AppliedForGood = (old : Lists) (changes : List Change) (new : Lists) (s c : ℕ) (numbers : List ℕ)
    → Invariant old → Runs old changes new → AppliedClose old s c numbers → AppliedClose new s c numbers

-- ---- one site

-- each step of a site preserves the invariant of that site, in which no other site's log is named
pub record SiteGoesOn (n s : ℕ) (log : List EntryValue) (applied : ℕ → List EntryValue) : Type 0 where
  pub appends : (ms : List Move) → MayAppend n s log applied ms
      → SiteInvariant n s (log ++ entry_at_end s log ms ∷ []) applied
  pub takes : (o : ℕ) (e : EntryValue) (now : ℕ → List EntryValue) → IsSiteOf n o → s ≢ o → is_closed log ≡ false
      → IsChain o (applied o ++ e ∷ [])
      → AddsEntry applied o e now → SiteInvariant n s (log ++ taking_back s o log e) now
  pub closes : (heir : Option ℕ) → MayClose n s log applied heir
      → SiteInvariant n s (log ++ entry_at_end s log (closing_moves n s log applied heir) ∷ []) applied

-- and the invariant bounds the site's log and its book
pub record SiteBounds (n s : ℕ) (log : List EntryValue) (applied : ℕ → List EntryValue) : Type 0 where
  -- above the last number of an ordinary entry, a log that is not closed has at most one reclaim for each other site;
  -- so one more reclaim, and the two moves of a closing entry, always fit
  pub room : is_closed log ≡ false → end log < LAST_APPEND + MAX_SITES
  -- it reclaimed what it is owed: nothing if it applied no closing entry with a frontier, and never more than it gave
  pub taken : (c : ℕ) → back c (moves_of log) ≡ owed s c log (frontier (applied c))
  pub none_taken : (c : ℕ) → is_closed (applied c) ≡ false → back c (moves_of log) ≡ 0
  pub taken_given : (c : ℕ) → back c (moves_of log) ≤ to c (moves_of log)
  -- what it is owed by any frontier is at most what it gave, and fits one reclaim
  pub owes_given : (c : ℕ) (k : Option (List ℕ)) → owed s c log k ≤ to c (moves_of log)
  pub owes_total : (c : ℕ) (k : Option (List ℕ)) → owed s c log k ≤ MAX_TOTAL
  pub received : received n s applied ≤ MAX_RECEIVED
  pub holds : held n s log applied ≤ MAX_HELD_RIGHTS

abbrev pub OneSite : Type 0
OneSite = (n s : ℕ) (log : List EntryValue) (applied : ℕ → List EntryValue)
    → MIN_SITES ≤ n → n ≤ MAX_SITES → IsSiteOf n s → SiteInvariant n s log applied
    → SiteGoesOn n s log applied × SiteBounds n s log applied
