-- The arguments of a process.
use Rattle.std.specs.Prelude.{List, drop, map}
use Rattle.std.specs.String.{string_bytes}
use Rattle.std.specs.declared.string.String.{String}
use Rattle.clap.specs.Walk.{Text}

-- the texts of these words but the first, which is the program's name, in order
abbrev pub arguments : {Z : Type 0} → List (String Z) → List Text
arguments words = drop 1 (map string_bytes words)
