-- Moves that were read, of which the slots keep the first ones.
use Rattle.std.specs.Prelude.{◌≡◌, ℕ, List, ◌∷◌, length, take, ◌==◌, Option, Some, None, Result, Ok, Err}
use Rattle.std.specs.Borrow.{Bor}
use Rattle.rights_types.specs.declared.moves.Move.{Move}
use Rattle.rights_types.specs.Entries.{EntryValue}
use Rattle.entry_codec.specs.declared.fault.LineError.{LineError}
use Rattle.entry_codec.specs.Parts.{left}
use Rattle.entry_codec.specs.Moves.{move_of}
use Rattle.entry_codec.specs.Reading.{allowed}
use Rattle.rights_types.specs.declared.limits.TheConstants.{MAX_MOVES}
use Rattle.entry_codec.specs.declared.format.TheConstants.{FIELD_BREAK}

-- the entry whose moves are the first of those that are kept
abbrev pub kept_entry : ℕ → ℕ → ℕ → List Move → EntryValue
kept_entry origin prev count kept = record { origin = origin; prev = prev; moves = take count kept }

abbrev pub AreKept : List Move → List Move → Type 0
AreKept moves kept = take MAX_MOVES moves ≡ take (length moves) (take MAX_MOVES kept)

-- the result is what comes after the first field, whose move is in the slot
abbrev pub FindsMove : Move → Option (Option (Bor (List ℕ)))
    → Option (Move × List (List ℕ)) → Type 0
FindsMove slot (Some rest) read = read ≡ Some (slot, left FIELD_BREAK rest)
FindsMove slot None read = read ≡ None

-- the same, for a field whose move an entry of this origin may have there
abbrev pub ReadsMove : LineError → ℕ → Move → Result (Option (Bor (List ℕ))) LineError
    → List (List ℕ) → Type 0
ReadsMove fault origin slot (Ok rest) fields =
    (text : List ℕ) × (fields ≡ text ∷ left FIELD_BREAK rest)
    × (allowed fault origin (length (left FIELD_BREAK rest) == 0) (move_of text) ≡ Ok slot)
ReadsMove fault origin slot (Err e) fields =
    (text : List ℕ) × (rest : List (List ℕ)) × (fields ≡ text ∷ rest)
    × (allowed fault origin (length rest == 0) (move_of text) ≡ Err e)

-- the result is the number of moves that reading gives
abbrev pub ReadsMoves : List Move → Result ℕ LineError → Result (List Move) LineError → Type 0
ReadsMoves kept (Ok count) read =
    (moves : List Move) × (read ≡ Ok moves) × (length moves ≡ count) × AreKept moves kept
ReadsMoves kept (Err e) read = read ≡ Err e

-- the result is the number of entries that reading gives
abbrev pub CountsEntries : Result ℕ LineError → Result (List EntryValue) LineError → Type 0
CountsEntries (Ok count) read =
    (entries : List EntryValue) × (read ≡ Ok entries) × (length entries ≡ count)
CountsEntries (Err e) read = read ≡ Err e
