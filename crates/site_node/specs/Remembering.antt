-- What commands under keys write in all turns at a desk, and which of it is remembered.
use Rattle.std.specs.Prelude.{◌≡◌, ◌≢◌, ℕ, nat_lt, Bool, true, false, List, [], ◌∷◌, ◌++◌, length, drop, map, reverse, Option, Some, None, Result, Ok, Err}
use Rattle.std.proofs.Common.{inl, inr}
use Rattle.std.specs.List.{All, Contains}
use Rattle.std.specs.Map.{lookup}
use Rattle.std.specs.Str.{bytes_eq}
use Rattle.rights_types.specs.Entries.{EntryValue, own}
use Rattle.request_queue.specs.declared.request.Request.{Request}
use Rattle.site_core.specs.declared.fault.DeskError.{DeskError}
use Rattle.command_keys.specs.Last.{last_of}
use Rattle.command_keys.specs.Keys.{KeysValue, no_keys, key_of, IsOnce}
use Rattle.command_keys.specs.declared.outcome.Effect.{Effect}
use Rattle.command_keys.specs.declared.outcome.Written.{Written}
use Rattle.site_records.specs.KeyRecords.{effect_of as effect_of_moves, keys_in, TakesKeyRecords}
use Rattle.apply_lanes.specs.Names.{DeskId}
use Rattle.apply_lanes.specs.Kepts.{KeptValue, SeatValue, IsKept}
use Rattle.apply_lanes.specs.Keeping.{all_recorded}
use Rattle.apply_lanes.specs.Recorders.{IsHanded, with_lines}
use Rattle.site_words.specs.declared.commands.DeskCommand.{DeskCommand}
use Rattle.site_node.specs.declared.reply.Reply.{Reply}
use Rattle.site_node.specs.declared.reply.Reply.TheVariants.{KeyReused}
use Rattle.site_node.specs.declared.tick.Ticked.{Ticked}
use Rattle.site_node.specs.Keyed.{ActsKeyed, effect_of, reply_as}
use Rattle.site_node.specs.Telling.{TicksFor}
use Rattle.site_node.specs.Ticking.{ServesEach, TicksBeside}

-- ---- the turns

pub data KeyTurn : Type 0 where
  -- a client's command under a key, for any seat, and its reply
  UnderKey : List ℕ → DeskCommand → Reply → KeyTurn
  -- a tick, by the clock or a client
  ByTick : KeyTurn
  -- what is not in the journal yet is handed over to it, as these lines
  HandsOver : List (List ℕ) → KeyTurn
  -- a command without a key, what a peer sends, and all else that changes no key
  Aside : KeyTurn

pub record ActsUnder (old : KeptValue) (key : List ℕ) (command : DeskCommand) (reply : Reply) (new : KeptValue) : Type 0 where
  pub was : SeatValue
  pub now : SeatValue
  pub acts : ActsKeyed old was key command reply new now

pub record HandsOverAll (old : KeptValue) (lines : List (List ℕ)) (new : KeptValue) : Type 0 where
  pub handed : IsHanded old.handed old.records old.keys.unrecorded lines
  pub rest : new ≡ record old {
    handed = old.records;
    lines = with_lines old.lines lines;
    keys = all_recorded old.keys new.keys.room;
  }

-- no key changed, and no entry of the log
pub record LeavesKeys (old new : KeptValue) : Type 0 where
  pub keys : new.keys ≡ old.keys
  pub more : List EntryValue
  pub log : new.desk.ledger.log.entries ≡ old.desk.ledger.log.entries ++ more

abbrev pub HasKeyTurn : KeptValue → KeyTurn → KeptValue → Type 0
HasKeyTurn old (UnderKey key command reply) new = ActsUnder old key command reply new
HasKeyTurn old ByTick new = TicksFor old new
HasKeyTurn old (HandsOver lines) new = HandsOverAll old lines new
HasKeyTurn old Aside new = LeavesKeys old new

-- these turns, one after another, by any threads
abbrev pub HasKeyTurns : KeptValue → List KeyTurn → KeptValue → Type 0
HasKeyTurns old [] new = new ≡ old
HasKeyTurns old (turn ∷ turns) new = (mid : KeptValue) × HasKeyTurn old turn mid × HasKeyTurns mid turns new

-- ---- what is written under keys

-- the entries that the new log has behind those of the old one
abbrev pub wrote : KeptValue → KeptValue → List EntryValue
wrote old new = drop (length old.desk.ledger.log.entries) new.desk.ledger.log.entries

-- .. with their key, the newest first; none without a key
abbrev pub under : Option (List ℕ) → List EntryValue → List (List ℕ × EntryValue)
under (Some key) es = reverse (map (λ e. (key, e)) es)
under None es = []

-- a tick writes an entry for each spend that it serves: under the key of that spend, if it waited under one
abbrev pub serve_writes : (old : KeptValue) (was : SeatValue) (served : List Request) (new : KeptValue) (now : SeatValue)
    → ServesEach old was served new now → List (List ℕ × EntryValue)
serve_writes old was [] new now h = []
serve_writes old was (request ∷ others) new now h =
    serve_writes h.0 h.1 others new now h.3 ++ under (key_of request.ticket old.keys.keys.waiting) (wrote old h.0)

abbrev pub tick_writes : (silent : ℕ → Bool) (old : KeptValue) (was : SeatValue) (time : ℕ) (served : List Request)
    (ticked : Result Ticked DeskError) (new : KeptValue) (now : SeatValue)
    → TicksBeside silent old was time served ticked new now → List (List ℕ × EntryValue)
tick_writes silent old was time served (Ok ticked) new now h =
    serve_writes h.in_time was served h.left now h.serves.each
tick_writes silent old was time served (Err fault) new now (inl h) = []
tick_writes silent old was time served (Err fault) new now (inr h) =
    serve_writes h.in_time was served new now h.fails.each

-- the keys whose commands wrote entries in this turn, each with its entry, the newest first
abbrev pub turn_writes : (old : KeptValue) (turn : KeyTurn) (new : KeptValue) → HasKeyTurn old turn new
    → List (List ℕ × EntryValue)
turn_writes old (UnderKey key command reply) new h = under (Some key) (wrote old new)
turn_writes old ByTick new h = tick_writes h.silent old h.was h.time h.served h.ticked new h.now h.ticks
turn_writes old (HandsOver lines) new h = []
turn_writes old Aside new h = []

-- .. in these turns
abbrev pub writes_in : (old : KeptValue) (turns : List KeyTurn) (new : KeptValue) → HasKeyTurns old turns new
    → List (List ℕ × EntryValue)
writes_in old [] new h = []
writes_in old (turn ∷ turns) new h = writes_in h.0 turns new h.2 ++ turn_writes old turn h.0 h.1

-- ---- what is remembered

-- the number of an entry, and what the command did that wrote it
abbrev pub deed : List ℕ × EntryValue → List ℕ × (ℕ × Option Effect)
deed w = (w.0, (own w.1, effect_of_moves w.1.moves))

abbrev pub seen : List ℕ × Written → List ℕ × (ℕ × Option Effect)
seen e = (e.0, (e.1.number, Some e.1.effect))

-- The keys that are remembered are the last of these that wrote entries, each under its last entry, with its number and
-- with what it does; no key is remembered twice; and the entries are of the site's own log.
pub record Remembers (writes : List (List ℕ × EntryValue)) (k : KeptValue) : Type 0 where
  pub last : map seen k.keys.keys.written ≡ last_of k.keys.keys.cap (map deed writes)
  pub once : IsOnce k.keys.keys
  pub own_entries : All (λ w. Contains k.desk.ledger.log.entries w.1) writes

-- the number of the last entry under this key, and what it does, if the key is remembered
abbrev pub last_deed : List (List ℕ × EntryValue) → KeptValue → List ℕ → Option (ℕ × Option Effect)
last_deed writes k key = lookup (bytes_eq key) (last_of k.keys.keys.cap (map deed writes))

-- ---- the laws

-- a site that remembers no key has none that wrote an entry; and after any turns it remembers the last that did
pub record LastWrites : Type 0 where
  pub at_first : (k : KeptValue) (room : ℕ) → k.keys.keys ≡ record (no_keys k.keys.keys.cap) { room = room }
      → Remembers [] k
  pub later : (writes : List (List ℕ × EntryValue)) (old : KeptValue) (turns : List KeyTurn) (new : KeptValue)
      (h : HasKeyTurns old turns new) → Remembers writes old → Remembers (writes_in old turns new h ++ writes) new

-- a command under the key of this entry wrote nothing: a repeat has the reply of the entry, and another is refused
pub record IsToldAgain (old : KeptValue) (command : DeskCommand) (reply : Reply) (new : KeptValue) (number : ℕ)
    (effect : Option Effect) : Type 0 where
  pub nothing : new.desk.ledger ≡ old.desk.ledger
  pub repeat_ : effect_of command ≡ effect → reply ≡ reply_as command number
  pub other : effect_of command ≢ effect → reply ≡ KeyReused

-- a command under a key that wrote this entry had the reply of the entry
pub record IsToldFirst (command : DeskCommand) (reply : Reply) (e : EntryValue) : Type 0 where
  pub effect : effect_of command ≡ effect_of_moves e.moves
  pub reply_is : reply ≡ reply_as command (own e)

pub record RepliesAreThose : Type 0 where
  pub first : (writes : List (List ℕ × EntryValue)) (old : KeptValue) (key : List ℕ) (command : DeskCommand) (reply : Reply)
      (new : KeptValue) (h : HasKeyTurn old (UnderKey key command reply) new) → Remembers writes old
      → All (λ w. IsToldFirst command reply w.1) (turn_writes old (UnderKey key command reply) new h)
  pub again : (writes : List (List ℕ × EntryValue)) (old : KeptValue) (key : List ℕ) (command : DeskCommand) (reply : Reply)
      (new : KeptValue) (number : ℕ) (effect : Option Effect) → HasKeyTurn old (UnderKey key command reply) new
      → Remembers writes old → last_deed writes old key ≡ Some (number, effect)
      → IsToldAgain old command reply new number effect

-- ---- the records of keys

-- the record of a key
abbrev pub recorded : List ℕ × EntryValue → List ℕ × ℕ
recorded w = (w.0, own w.1)

-- what of these a turn hands over: all that is not in the journal yet, in order
abbrev pub handed_in : KeptValue → KeyTurn → List (List ℕ × ℕ)
handed_in old (UnderKey key command reply) = []
handed_in old ByTick = []
handed_in old (HandsOver lines) = old.keys.unrecorded
handed_in old Aside = []

abbrev pub keys_handed : (old : KeptValue) (turns : List KeyTurn) (new : KeptValue) → HasKeyTurns old turns new
    → List (List ℕ × ℕ)
keys_handed old [] new h = []
keys_handed old (turn ∷ turns) new h = handed_in old turn ++ keys_handed h.0 turns new h.2

-- with a journal, what was handed over in these turns and what is to be are the records of all that was written under keys
abbrev pub WritesAreRecorded : Type 0
WritesAreRecorded = (writes : List (List ℕ × EntryValue)) (old : KeptValue) (turns : List KeyTurn) (new : KeptValue)
    (h : HasKeyTurns old turns new) → Remembers writes old → old.keys.is_recorded ≡ true
    → keys_handed old turns new h ++ new.keys.unrecorded
    ≡ old.keys.unrecorded ++ reverse (map recorded (writes_in old turns new h))

-- ---- a restart

-- the keys of a start: those that the records of keys make, each taken when the log had the first of its entries; or none
abbrev pub StartsKeys : Bool → List EntryValue → List (List ℕ) → KeysValue → Type 0
StartsKeys true log lines keys = TakesKeyRecords log (no_keys keys.cap) lines keys
StartsKeys false log lines keys = keys ≡ record (no_keys keys.cap) { room = keys.room }

-- A site starts again, with any number of keys, from a journal that it wrote: as it was when it had handed over the records
-- of this value, and those of the keys of these writes.
pub record StartsFrom (id : DeskId) (writes : List (List ℕ × EntryValue)) (was new : KeptValue) : Type 0 where
  pub before : IsKept id was
  pub after : IsKept id new
  pub records : new.records ≡ was.records
  pub lines : List (List ℕ)
  pub said : keys_in lines ≡ map recorded writes
  pub keys : StartsKeys (nat_lt 0 new.keys.keys.cap) new.desk.ledger.log.entries lines new.keys.keys

-- it remembers the last of what it had written then
abbrev pub StartsRemember : Type 0
StartsRemember = (id : DeskId) (writes : List (List ℕ × EntryValue)) (was new : KeptValue) → Remembers writes was
    → StartsFrom id writes was new → Remembers writes new
