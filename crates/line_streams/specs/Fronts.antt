-- How much of a text was written.
use Rattle.std.specs.Prelude.{ℕ, ◌<◌, List, Option, length, take}
use Rattle.std.specs.Io.KnownBytes.{Appends}

-- a proper prefix of the text was appended, and nothing else
abbrev pub FallsShort : Option (List ℕ) → Option (List ℕ) → List ℕ → Type 0
FallsShort old new text = (n : ℕ) × (n < length text) × Appends old new (take n text)
