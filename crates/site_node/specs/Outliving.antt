-- What is remembered of commands under keys, over turns, crashes and starts.
use Rattle.std.specs.Prelude.{◌≡◌, ℕ, nat_lt, true, List, [], ◌∷◌, ◌++◌, map, reverse}
use Rattle.std.specs.List.{Contains}
use Rattle.rights_types.specs.Entries.{EntryValue}
use Rattle.command_keys.specs.Keys.{no_keys}
use Rattle.site_records.specs.KeyRecords.{keys_in}
use Rattle.apply_lanes.specs.Names.{DeskId}
use Rattle.apply_lanes.specs.Kepts.{KeptValue, IsKept}
use Rattle.site_node.specs.Remembering.{KeyTurn, HasKeyTurn, turn_writes, handed_in, Remembers, StartsKeys}
use Rattle.site_node.specs.Remembering.KeyTurn.{UnderKey, ByTick, HandsOver, Aside}

-- The value under the lock; all that was written under keys and is not lost; and the records of keys that were handed over
-- to the journal, in order.
pub record Moment : Type 0 where
  pub kept : KeptValue
  pub writes : List (List ℕ × EntryValue)
  pub keys : List (List ℕ × ℕ)

-- now; and what a crash may leave: the journal as it was when a batch was handed over
pub record SiteWithKeys : Type 0 where
  pub now : Moment
  pub batches : List Moment

pub data KeyEvent : Type 0 where
  -- a turn at the desk
  Turned : KeyTurn → KeyEvent
  -- the site crashes, and starts again
  Crashed : KeyEvent

abbrev pub batches_after : KeyTurn → List Moment → Moment → List Moment
batches_after (UnderKey key command reply) batches now = batches
batches_after ByTick batches now = batches
batches_after (HandsOver lines) batches now = now ∷ batches
batches_after Aside batches now = batches

pub record TakesKeyTurn (id : DeskId) (old : SiteWithKeys) (turn : KeyTurn) (new : SiteWithKeys) : Type 0 where
  pub turned : HasKeyTurn old.now.kept turn new.now.kept
  pub valid : IsKept id new.now.kept
  pub writes : new.now.writes ≡ turn_writes old.now.kept turn new.now.kept turned ++ old.now.writes
  pub keys : new.now.keys ≡ old.now.keys ++ handed_in old.now.kept turn
  pub batches : new.batches ≡ batches_after turn old.batches new.now

-- A crash leaves the journal as it was when some batch was handed over: what was written later is lost. The site has these
-- records then, and the keys that the journal's records of keys make, as many as it is told to remember now.
pub record CrashesWithKeys (id : DeskId) (old new : SiteWithKeys) : Type 0 where
  pub left : Moment
  pub one : Contains old.batches left
  pub valid : IsKept id new.now.kept
  pub records : new.now.kept.records ≡ left.kept.records
  pub lines : List (List ℕ)
  pub said : keys_in lines ≡ reverse left.keys
  pub made : StartsKeys (nat_lt 0 new.now.kept.keys.keys.cap) new.now.kept.desk.ledger.log.entries lines new.now.kept.keys.keys
  pub journal : new.now.kept.keys.is_recorded ≡ true
  pub none : new.now.kept.keys.unrecorded ≡ []
  pub writes : new.now.writes ≡ left.writes
  pub keys : new.now.keys ≡ left.keys
  pub batches : new.batches ≡ new.now ∷ []

abbrev pub KeysBecome : DeskId → SiteWithKeys → KeyEvent → SiteWithKeys → Type 0
KeysBecome id old (Turned turn) new = TakesKeyTurn id old turn new
KeysBecome id old Crashed new = CrashesWithKeys id old new

-- one after another
abbrev pub KeysHappen : DeskId → SiteWithKeys → List KeyEvent → SiteWithKeys → Type 0
KeysHappen id old [] new = new ≡ old
KeysHappen id old (event ∷ events) new = (mid : SiteWithKeys) × KeysBecome id old event mid × KeysHappen id mid events new

-- a site with a new journal, which remembers no key
pub record BeginsWithKeys (id : DeskId) (site : SiteWithKeys) : Type 0 where
  pub valid : IsKept id site.now.kept
  pub room : ℕ
  pub keys : site.now.kept.keys.keys ≡ record (no_keys site.now.kept.keys.keys.cap) { room = room }
  pub journal : site.now.kept.keys.is_recorded ≡ true
  pub none : site.now.kept.keys.unrecorded ≡ []
  pub writes : site.now.writes ≡ []
  pub handed : site.now.keys ≡ []
  pub batches : site.batches ≡ site.now ∷ []

-- it remembers, after any of these, the last of what was written under keys and is not lost
abbrev pub KeysOutliveCrashes : Type 0
KeysOutliveCrashes = (id : DeskId) (start : SiteWithKeys) (events : List KeyEvent) (now : SiteWithKeys)
    → BeginsWithKeys id start → KeysHappen id start events now → Remembers now.now.writes now.now.kept
