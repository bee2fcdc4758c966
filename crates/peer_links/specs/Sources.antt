-- The lines that are taken from a source, and what is written of them.
use Rattle.std.specs.Prelude.{◌≡◌, ℕ, ◌<◌, ◌≤◌, List, [], ◌∷◌, ◌++◌, flat_map, length, take, Option, Result, Ok, Err}
use Rattle.std.specs.List.{All}
use Rattle.std.specs.Io.KnownBytes.{Appends}
use Rattle.entry_codec.specs.Pieces.{IsLine}
use Rattle.peer_links.specs.Turns.{InTurn}
use Rattle.peer_links.specs.declared.source.Batch.{Batch}
use Rattle.peer_links.specs.declared.source.Batch.TheVariants.{Over, Copied, Large}
use Rattle.peer_links.specs.declared.link.LinkFault.{LinkFault}
use Rattle.peer_links.specs.declared.link.LinkFault.TheVariants.{WriteFailed}

-- lines, concatenated
abbrev pub joined : List (List ℕ) → List ℕ
joined lines = flat_map (λ (line : List ℕ). line) lines

-- the text is the concatenation of these lines, each of which is whole
abbrev pub AreLines : List (List ℕ) → List ℕ → Type 0
AreLines lines text = All IsLine lines × (text ≡ joined lines)

module _ {S : Type 0} where
  -- the oldest lines of the source were copied to the start of the buffer, this number of bytes, and still wait; or no
  -- line waits; or the oldest line, which is larger than the buffer, was taken
  abbrev pub GivesBatch : {M : Type 0} → (S → List (List ℕ) → Type 0) → (S → List ℕ → S → Type 0) → (S → Type 0) → S
      → Batch M → List ℕ → S → Type 0
  GivesBatch waits takes is_over old Over room new = is_over new × (new ≡ old)
  GivesBatch waits takes is_over old (Copied count) room new =
      (0 < count) × (count ≤ length room) × (new ≡ old) × (lines : List (List ℕ)) × waits old lines
      × AreLines lines (take count room)
  GivesBatch waits takes is_over old (Large line) room new = IsLine line.items × (length room < length line.items)
      × takes old line.items new

-- what was written of these lines: all; or, after a failed write, all but the last, and a proper prefix of the last
abbrev pub WritesLines : Option (List ℕ) → Option (List ℕ) → List (List ℕ) → Result (Unit {0}) LinkFault → Type 0
WritesLines old new lines (Ok _) = Appends old new (joined lines)
WritesLines old new lines (Err fault) =
    (fault ≡ WriteFailed) × (whole : List (List ℕ)) × (last : List ℕ) × (n : ℕ)
    × (lines ≡ whole ++ last ∷ []) × (n < length last) × Appends old new (joined whole ++ take n last)

-- whole lines were taken from the source in order, and written
abbrev pub SendsLines : {S : Type 0} → (S → List ℕ → S → Type 0) → S → S → Option (List ℕ) → Option (List ℕ)
    → Result (Unit {0}) LinkFault → Type 0
SendsLines takes source after old new result =
    (lines : List (List ℕ)) × InTurn takes source lines after × All IsLine lines × WritesLines old new lines result
