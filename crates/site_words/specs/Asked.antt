-- What the program's words ask for.
use Rattle.std.specs.Prelude.{◌||◌, ◌==◌, ℕ, Bool, false, List, [], ◌∷◌, Option, if◌then◌else◌, bytes_eq, chars, codes}
use Rattle.std.specs.Prelude.{option_and_then, slice_get}
use Rattle.std.specs.Option.{option_map_or}
use Rattle.clap.specs.Faults.{fault_of}
use Rattle.clap.specs.Kinds.{Kinds}
use Rattle.clap.specs.Lexer.{short_of}
use Rattle.clap.specs.Simple.{subcommand_of}
use Rattle.clap.specs.Walk.{Row, Text}
use Rattle.site_words.specs.CommandLine.{app}

pub data Asked : Type 0 where
  script : Asked
  -- the words begin with `run`: the kinds of error that clap reports for them; if there is none, the values that it
  -- finds
  site : Kinds → List Row → Asked
  -- the same for words that begin with `check-journal`
  journal : Kinds → List Row → Asked
  help : Asked
  version : Asked
  nothing : Asked

-- the first flag of a word such as `-hx`
abbrev pub first_flag : Text → Option ℕ
first_flag word = option_and_then (λ flags. slice_get (chars flags) 0) (short_of word)

-- `--help`, or `-h` (104) with any flags after it
abbrev pub asks_for_help : Text → Bool
asks_for_help word =
    bytes_eq word (codes "--help") || option_map_or (λ flag. 104 == flag) (first_flag word) false

-- what the words after `sim` ask for: there are none, or only the word `--`
abbrev pub asked_behind_dashes : List Text → Asked
asked_behind_dashes [] = script
asked_behind_dashes (word ∷ rest) = nothing

abbrev pub asked_behind_sim : List Text → Asked
asked_behind_sim [] = script
asked_behind_sim (word ∷ rest) =
    if bytes_eq word (codes "--") then asked_behind_dashes rest
    else (if asks_for_help word then help else nothing)

-- the values that clap finds behind a command
abbrev pub rows_behind : List Text → List Row
rows_behind words = option_map_or (λ met. met.1) (subcommand_of app words) []

-- what words that begin with `run` ask for
unfoldable pub asked_of_site : List Text → Asked
asked_of_site words = site (fault_of app words) (rows_behind words)

-- .. and those that begin with `check-journal`
unfoldable pub asked_of_check : List Text → Asked
asked_of_check words = journal (fault_of app words) (rows_behind words)

-- what the words ask for, as clap sees them
abbrev pub asked_of_clap : List Text → Asked
asked_of_clap [] = nothing
asked_of_clap (word ∷ rest) =
    if bytes_eq (codes "sim") word then asked_behind_sim rest
    else (if bytes_eq (codes "run") word then asked_of_site (word ∷ rest)
    else (if bytes_eq (codes "check-journal") word then asked_of_check (word ∷ rest)
    else (if asks_for_help word then help else nothing)))

-- the first word is `--version`, or `-V`
abbrev pub asks_for_version : List Text → Bool
asks_for_version [] = false
asks_for_version (word ∷ rest) = bytes_eq word (codes "--version") || bytes_eq word (codes "-V")

-- `help` is the only word
abbrev pub is_help_word : List Text → Bool
is_help_word (word ∷ []) = bytes_eq word (codes "help")
is_help_word words = false

-- what all the words ask for
abbrev pub asked_by : List Text → Asked
asked_by words =
    if asks_for_version words then version else (if is_help_word words then help else asked_of_clap words)
