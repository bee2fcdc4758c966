-- How the program ends.
use Rattle.std.specs.Prelude.{◌≡◌, ◌==◌, ◌⊎◌, ℕ, Bool, true, false, List, [], length, ⊤, Option, Result, Ok, Err, OnOk}
use Rattle.std.specs.Prelude.{OnErr}
use Rattle.std.specs.Io.KnownBytes.{Appends}
use Rattle.line_streams.specs.Fronts.{FallsShort}
use Rattle.line_streams.specs.declared.write.OutputError.{OutputError}
use Rattle.site_words.specs.Asked.{Asked, help, journal, nothing, script, site, version}
use Rattle.site_words.specs.Checks.{Check}
use Rattle.rights_program.specs.Faults.{line_of, status_of}
use Rattle.site_words.specs.Settings.{Settings}
use Rattle.site_words.specs.Words.{AsksForCheck, MayRefuse, RunsSite, WantsHelp}
use Rattle.rights_program.specs.declared.fault.ProgramError.{ProgramError}
use Rattle.rights_program.specs.declared.run.Ended.{Ended}
use Rattle.rights_program.specs.declared.fault.ProgramError.TheVariants.{BadCommandLine, CannotCreateStartFile}
use Rattle.rights_program.specs.declared.fault.ProgramError.TheVariants.{CannotListen, Explained, OutOfMemory}
use Rattle.rights_program.specs.declared.fault.ProgramError.TheVariants.{StartedBefore}
use Rattle.rights_program.specs.declared.fault.ProgramError.TheVariants.{WriteFailed}

-- done, or stopped by a fault
abbrev pub Ending : Type 0
Ending = Result (Unit {0}) ProgramError

abbrev pub status_of_ending : Ending → ℕ
status_of_ending (Ok done) = 0
status_of_ending (Err fault) = status_of fault

-- what is printed on standard error
abbrev pub line_of_ending : Ending → List ℕ
line_of_ending (Ok done) = []
line_of_ending (Err fault) = line_of fault

-- whether commands are read: those of a script, or of a site if clap takes the words
abbrev pub reads : Asked → Bool
reads script = true
reads (site kinds rows) = length kinds == 0
reads asked = false

-- clap accepts the words, and the values that it finds are a site's configuration
abbrev pub IsRun : Asked → Type 0
IsRun asked = (s : Settings) × RunsSite asked s

-- clap accepts the words, and they name a journal to be checked
abbrev pub IsCheck : Asked → Type 0
IsCheck asked = (c : Check) × AsksForCheck asked c

-- the program may end without a fault: not for words that ask for nothing, nor for words that are refused
abbrev pub MayBeDone : Asked → Type 0
MayBeDone nothing = ⊥
MayBeDone (site kinds rows) = IsRun (site kinds rows) ⊎ WantsHelp (site kinds rows)
MayBeDone (journal kinds rows) = IsCheck (journal kinds rows) ⊎ WantsHelp (journal kinds rows)
MayBeDone asked = ⊤

-- the faults that may stop the program, by what was asked for
abbrev pub MayStop : Asked → ProgramError → Type 0
MayStop script BadCommandLine = ⊥
MayStop script StartedBefore = ⊥
MayStop script CannotCreateStartFile = ⊥
MayStop script CannotListen = ⊥
MayStop script Explained = ⊥
MayStop script fault = ⊤
MayStop (site kinds rows) BadCommandLine = MayRefuse (site kinds rows)
MayStop (site kinds rows) OutOfMemory = ⊤
MayStop (site kinds rows) WriteFailed = MayBeDone (site kinds rows)
MayStop (site kinds rows) fault = IsRun (site kinds rows)
MayStop (journal kinds rows) BadCommandLine = MayRefuse (journal kinds rows)
MayStop (journal kinds rows) OutOfMemory = ⊤
MayStop (journal kinds rows) WriteFailed = MayBeDone (journal kinds rows)
MayStop (journal kinds rows) Explained = IsCheck (journal kinds rows)
MayStop (journal kinds rows) fault = ⊥
MayStop help WriteFailed = ⊤
MayStop help OutOfMemory = ⊤
MayStop help fault = ⊥
MayStop version WriteFailed = ⊤
MayStop version OutOfMemory = ⊤
MayStop version fault = ⊥
MayStop nothing BadCommandLine = ⊤
MayStop nothing OutOfMemory = ⊤
MayStop nothing fault = ⊥

abbrev pub MayEnd : Asked → Ending → Type 0
MayEnd asked (Ok done) = MayBeDone asked
MayEnd asked (Err fault) = MayStop asked fault

-- what was written of a text: all of it, unless a write failed, and then a proper prefix of it
abbrev pub Says : Option (List ℕ) → Option (List ℕ) → List ℕ → Result (Unit {0}) OutputError → Type 0
Says old new text said = OnOk said (Appends old new text) × OnErr said (FallsShort old new text)

-- the status and the line on standard error are those of this ending
abbrev pub EndsWith : Ended → Option (List ℕ) → Option (List ℕ) → Ending → Type 0
EndsWith ended old new ending =
    (ended.status ≡ status_of_ending ending) × Says old new (line_of_ending ending) ended.said
