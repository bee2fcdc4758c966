-- The permitted changes to the lists. Each change is made by one site, and changes no list of another site.
use Rattle.std.specs.Prelude.{◌≡◌, ◌≢◌, ℕ, ◌≤◌, ◌⊎◌, false, List, [], ◌∷◌, ◌++◌, length, Option, Some}
use Rattle.std.specs.List.{Contains, slice_get}
use Rattle.rights_types.specs.Entries.{EntryValue}
use Rattle.rights_types.specs.Chains.{end, is_closed, IsLongest, IsFull, AddsEntry}
use Rattle.rights_types.specs.declared.limits.TheConstants.{MIN_SITES, MAX_SITES}
use Rattle.rights_types.specs.declared.moves.Move.{Move}
use Rattle.rights_protocol.specs.Lists.{Lists, IsSiteOf}
use Rattle.rights_protocol.specs.Retiring.{entry_at_end, taking_back}
use Rattle.rights_protocol.specs.Writing.{MayAppend, MayClose, closing_moves}

pub data Change : Type 0 where
  -- s appends an ordinary entry of these moves: it issues, spends or gives
  Append : ℕ → List Move → Change
  -- an entry of the log of o is offered at s
  Offer : ℕ → ℕ → EntryValue → Change
  -- s applies the next entry of o
  Take : ℕ → ℕ → Change
  -- s closes, with an heir or none
  CloseSite : ℕ → Option ℕ → Change
  -- a refusal, or anything else that changes none of these lists
  Nothing : Change

-- ---- what stays

-- what s has of the log of o
pub record LinkStays (old new : Lists) (s o : ℕ) : Type 0 where
  pub reached : new.reached s o ≡ old.reached s o
  pub put : new.put s o ≡ old.put s o
  pub applied : new.applied s o ≡ old.applied s o

-- all lists of site s
pub record SiteStays (old new : Lists) (s : ℕ) : Type 0 where
  pub log : new.log s ≡ old.log s
  pub links : (o : ℕ) → LinkStays old new s o

-- all lists of all sites
pub record Stays (old new : Lists) : Type 0 where
  pub count : new.count ≡ old.count
  pub sites : (k : ℕ) → SiteStays old new k

-- all lists of all sites but s
pub record OthersStay (old new : Lists) (s : ℕ) : Type 0 where
  pub count : new.count ≡ old.count
  pub sites : (k : ℕ) → k ≢ s → SiteStays old new k

-- ---- an ordinary entry

pub record Appends (old new : Lists) (s : ℕ) (ms : List Move) : Type 0 where
  pub site : IsSiteOf old.count s
  pub may : MayAppend old.count s (old.log s) (old.applied s) ms
  pub log : new.log s ≡ old.log s ++ entry_at_end s (old.log s) ms ∷ []
  pub links : (o : ℕ) → LinkStays old new s o
  pub others : OthersStay old new s

-- ---- an offer

-- the entry reaches s, as the next one or as one that is held; s delivers everything that is now in order
pub record Reaches (old new : Lists) (s o : ℕ) (e : EntryValue) : Type 0 where
  pub fresh : ¬ Contains (old.reached s o) e
  pub room : (e.prev ≡ end (old.put s o)) ⊎ (¬ IsFull (old.reached s o) (old.put s o))
  pub log : new.log s ≡ old.log s
  pub reached : new.reached s o ≡ old.reached s o ++ e ∷ []
  pub put : IsLongest (new.reached s o) (old.log o) (new.put s o)
  pub applied : new.applied s o ≡ old.applied s o
  pub links : (k : ℕ) → k ≢ o → LinkStays old new s k
  pub others : OthersStay old new s

-- it had reached s before, or it is not next and s already holds as many entries as it may
pub record TurnedAway (old new : Lists) (s o : ℕ) (e : EntryValue) : Type 0 where
  pub why : Contains (old.reached s o) e ⊎ ((e.prev ≢ end (old.put s o)) × IsFull (old.reached s o) (old.put s o))
  pub all : Stays old new

pub record Offers (old new : Lists) (s o : ℕ) (e : EntryValue) : Type 0 where
  pub site : IsSiteOf old.count s
  pub from : IsSiteOf old.count o
  pub differ : s ≢ o
  pub sent : Contains (old.log o) e
  pub comes : Reaches old new s o e ⊎ TurnedAway old new s o e

-- ---- a take

-- s, not closed, applies the next delivered entry; if that is a closing entry of o with a frontier, s reclaims what it
-- is owed in the same change
pub record Takes (old new : Lists) (s o : ℕ) : Type 0 where
  pub site : IsSiteOf old.count s
  pub from : IsSiteOf old.count o
  pub differ : s ≢ o
  pub unclosed : is_closed (old.log s) ≡ false
  pub entry : EntryValue
  pub next : slice_get (old.put s o) (length (old.applied s o)) ≡ Some entry
  pub applied : AddsEntry (old.applied s) o entry (new.applied s)
  pub log : new.log s ≡ old.log s ++ taking_back s o (old.log s) entry
  pub reached : (k : ℕ) → new.reached s k ≡ old.reached s k
  pub put : (k : ℕ) → new.put s k ≡ old.put s k
  pub others : OthersStay old new s

-- ---- a close

pub record Closes (old new : Lists) (s : ℕ) (heir : Option ℕ) : Type 0 where
  pub site : IsSiteOf old.count s
  pub may : MayClose old.count s (old.log s) (old.applied s) heir
  pub log : new.log s ≡ old.log s ++ entry_at_end s (old.log s)
      (closing_moves old.count s (old.log s) (old.applied s) heir) ∷ []
  pub links : (o : ℕ) → LinkStays old new s o
  pub others : OthersStay old new s

-- ---- runs

abbrev pub Step : Lists → Change → Lists → Type 0
Step old (Append s ms) new = Appends old new s ms
Step old (Offer s o e) new = Offers old new s o e
Step old (Take s o) new = Takes old new s o
Step old (CloseSite s heir) new = Closes old new s heir
Step old Nothing new = Stays old new

-- these changes, one after another, lead from the old lists to the new ones
abbrev pub Runs : Lists → List Change → Lists → Type 0
Runs old [] new = Stays old new
Runs old (change ∷ changes) new = (mid : Lists) × Step old change mid × Runs mid changes new

-- n sites, and nothing written yet
pub record Start (n : ℕ) (w : Lists) : Type 0 where
  pub some : MIN_SITES ≤ n
  pub few : n ≤ MAX_SITES
  pub count : w.count ≡ n
  pub log : (o : ℕ) → w.log o ≡ []
  pub reached : (s o : ℕ) → w.reached s o ≡ []
  pub put : (s o : ℕ) → w.put s o ≡ []
  pub applied : (s o : ℕ) → w.applied s o ≡ []
