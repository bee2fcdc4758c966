-- What the lines of a site's journal say, behind its first one, the opening.
use Rattle.std.specs.Prelude.{◌≡◌, ℕ, ◌≤◌, List, drop, map, reverse}
use Rattle.std.specs.List.{All, Contains}
use Rattle.rights_types.specs.Entries.{EntryValue}
use Rattle.rights_types.specs.Messages.{IsAsk}
use Rattle.rights_types.specs.declared.limits.TheConstants.{MAX_NUMBER}
use Rattle.rights_protocol.specs.Crashes.{Record, lists_of}
use Rattle.rights_protocol.specs.Crashes.Record.{Wrote, Applied, Asked}
use Rattle.command_keys.specs.Key.{IsKey}
use Rattle.site_records.specs.KeyRecords.{keys_in}
use Rattle.site_records.specs.Restores.{steps_in}
use Rattle.apply_lanes.specs.Names.{DeskId}
use Rattle.apply_lanes.specs.Kepts.{KeptValue, IsKept}
use Rattle.apply_lanes.specs.Recorders.{IsHanded}
use Rattle.site_node.specs.Remembering.{recorded}

abbrev pub behind : List (List ℕ) → List (List ℕ)
behind lines = drop 1 lines

-- the log of site s that they say
abbrev pub log_said : ℕ → List (List ℕ) → List EntryValue
log_said s lines = (lists_of s (steps_in s (behind lines))).log

-- The keys that they say are those of these commands that wrote entries, each with the number of its entry, and these are
-- entries of the log that they say.
pub record SaysWrites (s : ℕ) (lines : List (List ℕ)) (writes : List (List ℕ × EntryValue)) : Type 0 where
  pub keys : keys_in (behind lines) ≡ map recorded writes
  pub entries : All (λ w. Contains (log_said s lines) w.1) writes

-- ---- what is handed over

-- an ask within its limits, as all values of the type `Ask` are
abbrev pub FitsIfAsk : Record → Type 0
FitsIfAsk (Wrote e) = Unit {0}
FitsIfAsk (Applied e) = Unit {0}
FitsIfAsk (Asked a) = IsAsk a

-- a key, as all values of the type `Key` are, with the number of an entry
pub record IsKeyRecord (entry : List ℕ × ℕ) : Type 0 where
  pub key : IsKey entry.0
  pub some : 1 ≤ entry.1
  pub within : entry.1 ≤ MAX_NUMBER

-- these lines say these records, in order, and these keys
pub record Says (s : ℕ) (records : List Record) (keys : List (List ℕ × ℕ)) (lines : List (List ℕ)) : Type 0 where
  pub steps : steps_in s lines ≡ records
  pub said : keys_in lines ≡ reverse keys

-- the lines that are handed over are read back: as the records that were not handed over before, and the keys
abbrev pub HandedReadsBack : Type 0
HandedReadsBack = (id : DeskId) (k : KeptValue) (lines : List (List ℕ)) → IsKept id k → All FitsIfAsk k.records
    → All IsKeyRecord k.keys.unrecorded → (h : IsHanded k.handed k.records k.keys.unrecorded lines)
    → Says id.site h.records.rest k.keys.unrecorded lines
