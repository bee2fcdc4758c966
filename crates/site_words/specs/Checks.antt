-- What the words of `check-journal` ask for.
use Rattle.std.specs.Prelude.{◌≡◌, ⊤, Bool, List, Some, Result, Ok, Err, codes}
use Rattle.clap.specs.Walk.{Row, Text, first_of}
use Rattle.site_words.specs.Settings.{HasFlag}
use Rattle.site_words.specs.declared.words.WordsFault.{WordsFault}
use Rattle.site_words.specs.declared.words.WordsFault.TheVariants.{OutOfMemory, Refused}

-- the path of the journal, and whether the result is printed as an object of JSON
pub record Check : Type 0 where
  pub path : Text
  pub json : Bool

-- it is as clap found it
pub record IsAskedBy (rows : List Row) (c : Check) : Type 0 where
  pub path : first_of (codes "file") rows ≡ Some c.path
  pub json : HasFlag rows (codes "json") c.json

-- the check that clap found, or a refusal if it found none; or memory ran out
abbrev pub IsCheckBy : List Row → Result Check WordsFault → Type 0
IsCheckBy rows (Ok c) = IsAskedBy rows c
IsCheckBy rows (Err Refused) = (c : Check) → IsAskedBy rows c → ⊥
IsCheckBy rows (Err OutOfMemory) = ⊤
