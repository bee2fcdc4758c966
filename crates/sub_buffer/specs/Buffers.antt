-- The buffer of a subscriber for the entries of one origin, as plain data.
use Rattle.std.specs.Prelude.{◌≡◌, ◌≢◌, ℕ, ◌<◌, ◌≤◌, ◌⊎◌, Bool, true, false, not, nat_lt, List, [], ◌∷◌, ◌++◌, length}
use Rattle.std.specs.Prelude.{Option, None, max}
use Rattle.std.specs.List.{All, AllPairs, Contains, filter}
use Rattle.rights_types.specs.Ranges.{IsSite, IsNumber}
use Rattle.rights_types.specs.Entries.{EntryValue, own, closes}
use Rattle.rights_types.specs.Messages.{QueryValue}
use Rattle.rights_types.specs.declared.limits.TheConstants.{MAX_HELD}

-- whose buffer it is, and of whose log; the last number delivered, the highest seen number, and whether the closing
-- entry was delivered; the held entries, in the order of their previous numbers; and the gap that was asked for last
pub record BufferValue : Type 0 where
  pub me : ℕ
  pub origin : ℕ
  pub last : ℕ
  pub told : ℕ
  pub closed : Bool
  pub held : List EntryValue
  pub asked : Option QueryValue

-- a buffer to which nothing has come
abbrev pub new_buffer : ℕ → ℕ → BufferValue
new_buffer me origin = record { me = me; origin = origin; last = 0; told = 0; closed = false; held = []; asked = None }

-- one of these entries has the previous number n
abbrev pub HasPrev : ℕ → List EntryValue → Type 0
HasPrev n es = (e : EntryValue) × Contains es e × (e.prev ≡ n)

-- the entries that begin before the number n, and those that begin at n or later
abbrev pub before : ℕ → List EntryValue → List EntryValue
before n es = filter (λ e. nat_lt e.prev n) es

abbrev pub onward : ℕ → List EntryValue → List EntryValue
onward n es = filter (λ e. not (nat_lt e.prev n)) es

-- each entry begins before the ones after it
abbrev pub InOrder : List EntryValue → Type 0
InOrder es = AllPairs (λ e f. e.prev < f.prev) es

-- of every buffer: no two held entries begin at the same number, none begins before the last number delivered, and no
-- number of a delivered or held entry exceeds the highest seen one
pub record IsBuffer (b : BufferValue) : Type 0 where
  pub me : IsSite b.me
  pub origin : IsSite b.origin
  pub differ : b.origin ≢ b.me
  pub last : b.last ≤ b.told
  pub told : IsNumber b.told
  pub few : length b.held ≤ MAX_HELD
  pub in_order : InOrder b.held
  pub later : All (λ e. b.last ≤ e.prev) b.held
  pub heard : All (λ e. own e ≤ b.told) b.held
  pub of_origin : All (λ e. e.origin ≡ b.origin) b.held

-- no held entry is next, or the closing entry was delivered
abbrev pub IsSettled : BufferValue → Type 0
IsSettled b = (b.closed ≡ true) ⊎ ¬ HasPrev b.last b.held

-- both are buffers of one site for the log of one origin
pub record SamePair (old new : BufferValue) : Type 0 where
  pub me : new.me ≡ old.me
  pub origin : new.origin ≡ old.origin

-- the number n was seen
abbrev pub told_of : BufferValue → ℕ → BufferValue
told_of b n = record b { told = max b.told n }

-- the entry e was delivered; held entries that begin before its end are dropped
abbrev pub delivered : BufferValue → EntryValue → BufferValue
delivered b e = record b { last = own e; closed = closes e; held = onward (own e) b.held }

-- the entry e is held too
abbrev pub with_held : BufferValue → EntryValue → BufferValue
with_held b e = record b { held = before e.prev b.held ++ e ∷ onward e.prev b.held }
