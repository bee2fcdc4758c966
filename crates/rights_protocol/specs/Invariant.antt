-- The invariant of every change: a fact of each site alone, and one of each link between two sites.
use Rattle.std.specs.Prelude.{◌≡◌, ◌≢◌, ℕ, ◌+◌, ◌-◌, ◌≤◌, true, false, List, [], length, Some, if◌then◌else◌}
use Rattle.std.specs.List.{All, AllPairs, Contains, slice_get}
use Rattle.rights_types.specs.Entries.{EntryValue}
use Rattle.rights_types.specs.Chains.{end, is_closed, IsChain, IsPrefix, IsLongest, moves_of}
use Rattle.rights_types.specs.Moves.{NamesWithin}
use Rattle.rights_types.specs.Rights.{covers, received, sum_sites}
use Rattle.rights_types.specs.declared.limits.TheConstants.{MIN_SITES, MAX_SITES, MAX_HELD, LAST_APPEND}
use Rattle.rights_protocol.specs.Lists.{Lists}
use Rattle.rights_protocol.specs.Retiring.{frontier, own_frontier, beyond, owed, takings, one_taking}

-- how many of n sites are known to be closed, by what was applied of their logs
abbrev pub known_closed : ℕ → (ℕ → List EntryValue) → ℕ
known_closed n applied = sum_sites n (λ o. if is_closed (applied o) then 1 else 0)

-- The invariant of site s among n: a fact of its log and of what it applied of the other logs.
pub record SiteInvariant (n s : ℕ) (log : List EntryValue) (applied : ℕ → List EntryValue) : Type 0 where
  pub chain : IsChain s log
  pub chains : (o : ℕ) → IsChain o (applied o)
  -- it applies nothing of its own log
  pub itself : applied s ≡ []
  pub within : All (NamesWithin n) (moves_of log)
  -- it never spent or gave what it did not hold
  pub covered : covers (received n s applied) (moves_of log) ≡ true
  -- a log that is closed ends in a closing entry whose frontier is what the site applied
  pub closing : is_closed log ≡ true → frontier log ≡ Some (own_frontier n applied)
  -- from each c whose closing entry it applied, it reclaimed exactly what it is owed by that entry's frontier, once;
  -- and from no other
  pub taken : (c : ℕ) → takings c log ≡ one_taking c (owed s c log (frontier (applied c)))
  -- and the entry that did so begins at its own position in that frontier, or after it: c has not applied it
  pub placed : (c : ℕ) (numbers : List ℕ) (place : ℕ) → frontier (applied c) ≡ Some numbers
      → slice_get numbers (s - 1) ≡ Some place
      → takings c (beyond place log) ≡ takings c log
  -- above the last number of an ordinary entry there is at most one reclaim for each site that is known to be closed
  pub fits : is_closed log ≡ false → end log ≤ LAST_APPEND + known_closed n applied

-- The invariant of a link: what reached another site of this log, what its buffer delivered in order, and what it
-- applied.
pub record LinkInvariant (log reached put applied : List EntryValue) : Type 0 where
  pub sent : All (Contains log) reached
  pub once : AllPairs (λ x y. x ≢ y) reached
  pub longest : IsLongest reached log put
  pub held : length reached ≤ length put + MAX_HELD
  pub begins : IsPrefix applied put

pub record Invariant (w : Lists) : Type 0 where
  pub some : MIN_SITES ≤ w.count
  pub few : w.count ≤ MAX_SITES
  pub sites : (s : ℕ) → SiteInvariant w.count s (w.log s) (w.applied s)
  pub links : (s o : ℕ) → LinkInvariant (w.log o) (w.reached s o) (w.put s o) (w.applied s o)
