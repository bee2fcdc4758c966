-- The results of `read_words`.
use Rattle.std.specs.Prelude.{◌≡◌, ◌≢◌, ◌⊎◌, ⊤, Bool, true, false, List, [], Option, Some, Result, Ok, Err, codes}
use Rattle.std.specs.Prelude.{option_map}
use Rattle.clap.specs.Kinds.{IsAmong}
use Rattle.clap.specs.Walk.{Row, Text}
use Rattle.clap.specs.declared.error.kind.ErrorKind.{ErrorKind}
use Rattle.clap.specs.declared.error.kind.ErrorKind.TheVariants as kind
use Rattle.site_words.specs.Asked.{Asked, help, journal, nothing, script, site, version}
use Rattle.site_words.specs.Checks.{Check, IsAskedBy, IsCheckBy}
use Rattle.site_words.specs.Settings.{IsFound, IsSettings, Settings}
use Rattle.site_words.specs.declared.words.Command.{Command}
use Rattle.site_words.specs.declared.words.Command.TheVariants.{Sim, Run, CheckJournal, Help, Version}
use Rattle.site_words.specs.declared.words.WordsFault.{WordsFault}
use Rattle.site_words.specs.declared.words.WordsFault.TheVariants.{OutOfMemory, Refused}

-- settings that satisfy this, or a refusal if there are none; or memory ran out
abbrev pub IsSetBy : (Settings → Type 0) → Result Settings WordsFault → Type 0
IsSetBy Fits (Ok s) = IsSettings s × Fits s
IsSetBy Fits (Err Refused) = (s : Settings) → IsSettings s → Fits s → ⊥
IsSetBy Fits (Err OutOfMemory) = ⊤

-- neither a request for help nor lack of memory
abbrev pub is_refusal : ErrorKind → Bool
is_refusal kind.DisplayHelp = false
is_refusal kind.OutOfMemory = false
is_refusal other = true

abbrev pub RunsSite : Asked → Settings → Type 0
RunsSite (site kinds rows) s = (kinds ≡ []) × IsSetBy (IsFound rows) (Ok s)
RunsSite asked s = ⊥

-- clap takes the words, and this is the check that it finds
abbrev pub AsksForCheck : Asked → Check → Type 0
AsksForCheck (journal kinds rows) c = (kinds ≡ []) × IsAskedBy rows c
AsksForCheck asked c = ⊥

abbrev pub WantsHelp : Asked → Type 0
WantsHelp help = ⊤
WantsHelp (journal kinds rows) = IsAmong kind.DisplayHelp kinds
WantsHelp (site kinds rows) = IsAmong kind.DisplayHelp kinds
WantsHelp asked = ⊥

-- clap refuses the words, or the values that it finds are not a configuration, or not a check
abbrev pub MayRefuse : Asked → Type 0
MayRefuse nothing = ⊤
MayRefuse (site kinds rows) = ((k : ErrorKind) × IsAmong k kinds × (is_refusal k ≡ true))
    ⊎ ((kinds ≡ []) × IsSetBy (IsFound rows) (Err Refused))
MayRefuse (journal kinds rows) = ((k : ErrorKind) × IsAmong k kinds × (is_refusal k ≡ true))
    ⊎ ((kinds ≡ []) × IsCheckBy rows (Err Refused))
MayRefuse asked = ⊥

-- the result if clap found these values after `run`
abbrev pub RunsBy : List Row → Result Command WordsFault → Type 0
RunsBy rows (Ok (Run config)) = IsSetBy (IsFound rows) (Ok config)
RunsBy rows (Ok command) = ⊥
RunsBy rows (Err fault) = IsSetBy (IsFound rows) (Err fault)

-- .. and after `check-journal`
abbrev pub ChecksBy : List Row → Result Command WordsFault → Type 0
ChecksBy rows (Ok (CheckJournal check)) = IsCheckBy rows (Ok check)
ChecksBy rows (Ok command) = ⊥
ChecksBy rows (Err fault) = IsCheckBy rows (Err fault)

-- the result if clap found a command: its name, and the values after it
abbrev pub AnswersMet : Option (Text × List Row) → Result Command WordsFault → Type 0
AnswersMet met r = (option_map (λ m. m.0) met ≡ Some (codes "sim") → r ≡ Ok Sim)
    × ((rows : List Row) → met ≡ Some (codes "run", rows) → RunsBy rows r)
    × ((rows : List Row) → met ≡ Some (codes "check-journal", rows) → ChecksBy rows r)

-- the result is what was asked for; memory may run out for all words but those that ask for the version
abbrev pub MayAnswer : Asked → Result Command WordsFault → Type 0
MayAnswer asked (Ok Sim) = asked ≡ script
MayAnswer asked (Ok (Run config)) = RunsSite asked config
MayAnswer asked (Ok (CheckJournal check)) = AsksForCheck asked check
MayAnswer asked (Ok (Help text)) = WantsHelp asked
MayAnswer asked (Ok Version) = asked ≡ version
MayAnswer asked (Err Refused) = MayRefuse asked
MayAnswer asked (Err OutOfMemory) = asked ≢ version
