-- The keys of a site over turns, appends, crashes and starts, by the lines of its journal.
use Rattle.std.specs.Prelude.{◌≡◌, ℕ, List, [], ◌∷◌, ◌++◌, map}
use Rattle.rights_types.specs.Entries.{EntryValue}
use Rattle.command_keys.specs.Key.{IsKey}
use Rattle.command_keys.specs.Keys.{no_keys}
use Rattle.site_journal.specs.Appends.{HasFirst}
use Rattle.site_journal.specs.Format.{StandsFor, Takes}
use Rattle.site_records.specs.Openings.{OpeningValue}
use Rattle.apply_lanes.specs.Names.{DeskId}
use Rattle.apply_lanes.specs.Kepts.{KeptValue, IsKept}
use Rattle.site_node.specs.Remembering.{KeyTurn, turn_writes, Remembers}
use Rattle.site_node.specs.Remembering.KeyTurn.{UnderKey, ByTick, HandsOver, Aside}
use Rattle.desk_turns.specs.Journaling.{KeepsJournal}
use Rattle.desk_turns.specs.JournalLines.{SaysWrites}
use Rattle.desk_turns.specs.KeyTurns.{IsKeyTurn}
use Rattle.site_server.specs.Starting.{ReplayingValue, StartTakes, TakesAll, first_lines}

-- ---- a start that has the desk alone

-- the states before and after turns that lead from k to l, one after another, with nothing in between
abbrev pub Leads : KeptValue → List KeptValue → KeptValue → Type 0
Leads k [] l = l ≡ k
Leads k (x ∷ []) l = ⊥
Leads k (x ∷ y ∷ states) l = (x ≡ k) × Leads y states l

-- the turns that a start took for a record, by itself or for a seat, lead from k to l
pub record HasDeskAlone (k : KeptValue) (old new : ReplayingValue) (l : KeptValue) : Type 0 where
  pub by_turns : List KeptValue
  pub turns : new.turns ≡ old.turns ++ by_turns
  pub by_seat : List KeptValue
  pub seat : new.seated.states ≡ old.seated.states ++ by_seat
  pub leads : Leads k (by_turns ++ by_seat) l

-- .. and so do those for each of these records, one after another
abbrev pub TakeAlone : (id : DeskId) (k : KeptValue) (old : ReplayingValue) (lines : List (List ℕ)) (new : ReplayingValue)
    (l : KeptValue) → Takes (StartTakes id) old lines new → Type 0
TakeAlone id k old [] new l took = l ≡ k
TakeAlone id k old (line ∷ lines) new l took =
    (m : KeptValue) × HasDeskAlone k old took.0 m × TakeAlone id m took.0 lines new l took.2

-- a new desk: it has no records and no keys
pub record IsNewDesk (id : DeskId) (k : KeptValue) : Type 0 where
  pub valid : IsKept id k
  pub records : k.records ≡ []
  pub room : ℕ
  pub keys : k.keys.keys ≡ record (no_keys k.keys.keys.cap) { room = room }

-- A site starts, with any number of keys: at a new desk, which it has alone, all records of its journal are taken, one
-- after another, and then it keeps the journal.
pub record StartsFrom (id : DeskId) (own : OpeningValue) (lines : List (List ℕ)) (done : ReplayingValue)
    (new : KeptValue) : Type 0 where
  pub site : own.site ≡ id.site
  pub all : TakesAll id own lines done
  pub first : KeptValue
  pub unused : IsNewDesk id first
  pub last : KeptValue
  pub alone : TakeAlone id first all.begun lines done last all.took
  pub before : IsKept id last
  pub made : ℕ
  pub keeps : KeepsJournal made last new
  pub after : IsKept id new

-- it remembers the last of all that was written under keys, as far as its journal says that
abbrev pub StartsRememberJournal : Type 0
StartsRememberJournal = (id : DeskId) (own : OpeningValue) (lines : List (List ℕ)) (done : ReplayingValue) (new : KeptValue)
    (writes : List (List ℕ × EntryValue)) → StartsFrom id own lines done new → SaysWrites id.site lines writes
    → Remembers writes new

-- ---- turns, appends, crashes and starts

-- lines of a journal, and all that was written under keys by then and is not lost
pub record Stage : Type 0 where
  pub lines : List (List ℕ)
  pub writes : List (List ℕ × EntryValue)

-- The value under the lock, and all that was written under keys and is not lost; the lines of the journal of which it was
-- told that they are durable; and the batches that were handed over since, in order, each with what was written by then.
pub record SiteOnDisk : Type 0 where
  pub kept : KeptValue
  pub writes : List (List ℕ × EntryValue)
  pub told : Stage
  pub handed : List Stage

pub data DiskEvent : Type 0 where
  -- a turn at the desk
  Turned : KeyTurn → DiskEvent
  -- the append of the next batch returned Ok
  Told : DiskEvent
  -- the process ends, at any moment, and the site starts again
  Restarted : DiskEvent

-- the batches that were handed over, as the journal gets them
abbrev pub batches : List Stage → List (List (List ℕ))
batches handed = map (λ (b : Stage). b.lines) handed

-- the batch of a turn, with what was written by then
abbrev pub batch_of : KeyTurn → List (List ℕ × EntryValue) → List Stage
batch_of (UnderKey key command reply) writes = []
batch_of ByTick writes = []
batch_of (HandsOver lines) writes = record { lines = lines; writes = writes } ∷ []
batch_of Aside writes = []

-- the key of a command is a key, as all values of its type are
abbrev pub HasKeyType : KeyTurn → Type 0
HasKeyType (UnderKey key command reply) = IsKey key
HasKeyType ByTick = Unit {0}
HasKeyType (HandsOver lines) = Unit {0}
HasKeyType Aside = Unit {0}

pub record TakesTurnAt (id : DeskId) (old : SiteOnDisk) (turn : KeyTurn) (new : SiteOnDisk) : Type 0 where
  pub turned : IsKeyTurn old.kept turn new.kept
  pub valid : IsKept id new.kept
  pub key : HasKeyType turn
  pub writes : new.writes ≡ turn_writes old.kept turn new.kept turned.has ++ old.writes
  pub told : new.told ≡ old.told
  pub handed : new.handed ≡ old.handed ++ batch_of turn new.writes

-- the lines of this stage, and behind them those of a batch
abbrev pub with_batch : Stage → Stage → Stage
with_batch told batch = record { lines = told.lines ++ batch.lines; writes = batch.writes }

-- the next batch is durable, and this was told
pub record TellsNext (old new : SiteOnDisk) : Type 0 where
  pub batch : Stage
  pub others : List Stage
  pub next : old.handed ≡ batch ∷ others
  pub rest : new ≡ record old { told = with_batch old.told batch; handed = others }

-- what was written by the time at which the last of these batches was handed over, which are the first of those that were
abbrev pub writes_by : List (List ℕ × EntryValue) → List (List (List ℕ)) → List Stage → List (List ℕ × EntryValue)
writes_by told [] handed = told
writes_by told (one ∷ first) [] = told
writes_by told (one ∷ first) (batch ∷ handed) = writes_by batch.writes first handed

-- A crash leaves what `crashes_leave_batches` of site_journal says. The site starts from the lines of that file, and first
-- hands over lines of its own.
pub record Restarts (id : DeskId) (old new : SiteOnDisk) : Type 0 where
  pub file : List ℕ
  pub leaves : HasFirst old.told.lines (batches old.handed) file
  pub own : OpeningValue
  pub read : List (List ℕ)
  pub there : StandsFor file read
  pub done : ReplayingValue
  pub starts : StartsFrom id own read done new.kept
  pub writes : new.writes ≡ writes_by old.told.writes leaves.first old.handed
  pub told : new.told ≡ record { lines = read; writes = new.writes }
  pub handed : new.handed ≡ record { lines = first_lines own done.taken done.tickets; writes = new.writes } ∷ []

abbrev pub OnDisk : DeskId → SiteOnDisk → DiskEvent → SiteOnDisk → Type 0
OnDisk id old (Turned turn) new = TakesTurnAt id old turn new
OnDisk id old Told new = TellsNext old new
OnDisk id old Restarted new = Restarts id old new

-- one after another
abbrev pub AllOnDisk : DeskId → SiteOnDisk → List DiskEvent → SiteOnDisk → Type 0
AllOnDisk id old [] new = new ≡ old
AllOnDisk id old (event ∷ events) new = (mid : SiteOnDisk) × OnDisk id old event mid × AllOnDisk id mid events new

-- no process yet, and an empty file
pub record IsEmptyFile (site : SiteOnDisk) : Type 0 where
  pub told : site.told ≡ record { lines = []; writes = [] }
  pub handed : site.handed ≡ []

-- After any of these, from the first start on an empty file: the site remembers the last of all that was written under keys
-- and that no crash took away.
abbrev pub KeysAreOnDisk : Type 0
KeysAreOnDisk = (id : DeskId) (empty start : SiteOnDisk) (events : List DiskEvent) (now : SiteOnDisk) → IsEmptyFile empty
    → Restarts id empty start → AllOnDisk id start events now → Remembers now.writes now.kept

-- these, and more that was written later
abbrev pub IsMore : List (List ℕ × EntryValue) → List (List ℕ × EntryValue) → Type 0
IsMore old new = (later : List (List ℕ × EntryValue)) × (new ≡ later ++ old)

-- What was written by the time at which a batch was handed over is not lost from the moment on at which the append of that
-- batch returned Ok, whatever happens later.
abbrev pub ToldIsNotLost : Type 0
ToldIsNotLost = (id : DeskId) (empty start old : SiteOnDisk) (before later : List DiskEvent) (now : SiteOnDisk)
    → IsEmptyFile empty → Restarts id empty start → AllOnDisk id start before old → AllOnDisk id old later now
    → IsMore old.told.writes now.writes
