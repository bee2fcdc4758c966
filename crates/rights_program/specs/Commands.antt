-- The effect of a command of the program.
use Rattle.std.specs.Prelude.{◌≡◌, ◌⊎◌, ⊤, ℕ, List, Option, Result, Ok, Err}
use Rattle.std.specs.Borrow.{MutBor}
use Rattle.std.specs.Fn.{Once}
use Rattle.std.specs.Io.KnownBytes.{Appends}
use Rattle.line_streams.specs.Fronts.{FallsShort}
use Rattle.site_words.specs.Asked.{Asked}
use Rattle.site_words.specs.Checks.{Check}
use Rattle.site_words.specs.Settings.{Settings}
use Rattle.site_words.specs.Words.{AsksForCheck, RunsSite}
use Rattle.site_words.specs.declared.fault.CheckFault.{CheckFault}
use Rattle.site_words.specs.declared.fault.SiteFault.{SiteFault}
use Rattle.site_words.specs.declared.words.Command.{Command}
use Rattle.site_words.specs.declared.words.Command.TheVariants.{Sim, Run, CheckJournal, Help, Version}
use Rattle.rights_program.specs.Endings.{Ending}
use Rattle.rights_program.specs.Faults.{fault_of_check, fault_of_site}
use Rattle.rights_program.specs.Scripts.{Answered}
use Rattle.rights_program.specs.declared.fault.ProgramError.TheVariants.{OutOfMemory, WriteFailed}
use Rattle.rights_program.specs.declared.version.TheConstants.{VERSION}

-- a run of a site with these settings ends in this way
abbrev pub SiteRun : Type 1
SiteRun = Settings → Result (Unit {0}) SiteFault → Type 0

-- what runs a site was called on these streams, and left them in this state
pub record RunsOn {F R W : Type 0}
    (g : Once F (Settings × (MutBor R × (MutBor W × Unit {0})))
    (Result (Unit {0}) SiteFault × (MutBor R × (MutBor W × Unit {0}))))
    (run : F) (reader reader' : R) (writer writer' : W) (s : Settings) (ended : Result (Unit {0}) SiteFault)
    : Type 0 where
  pub input : MutBor R
  pub output : MutBor W
  pub given : (input.now ≡ reader) × (output.now ≡ writer)
  pub left : MutBor R × (MutBor W × Unit {0})
  pub called : g.post run (s, (input, (output, tt))) (ended, left)
  pub leaves : (left.0.now ≡ reader') × (left.1.0.now ≡ writer')

abbrev pub ending_of_site : Result (Unit {0}) SiteFault → Ending
ending_of_site (Ok done) = Ok done
ending_of_site (Err fault) = Err (fault_of_site fault)

-- a check of a journal ends in this way
abbrev pub CheckRun : Type 1
CheckRun = Check → Result (Unit {0}) CheckFault → Type 0

-- what checks a journal was called on this output, and left it in this state
pub record ChecksOn {G W : Type 0}
    (g : Once G (Check × (MutBor W × Unit {0})) (Result (Unit {0}) CheckFault × (MutBor W × Unit {0})))
    (check : G) (writer writer' : W) (c : Check) (ended : Result (Unit {0}) CheckFault) : Type 0 where
  pub output : MutBor W
  pub given : output.now ≡ writer
  pub left : MutBor W × Unit {0}
  pub called : g.post check (c, (output, tt)) (ended, left)
  pub leaves : left.0.now ≡ writer'

abbrev pub ending_of_check : Result (Unit {0}) CheckFault → Ending
ending_of_check (Ok done) = Ok done
ending_of_check (Err fault) = Err (fault_of_check fault)

-- a text was printed whole, or a write failed after a proper prefix of it
abbrev pub Prints : Option (List ℕ) → Option (List ℕ) → List ℕ → Ending → Type 0
Prints held holds text (Ok done) = Appends held holds text
Prints held holds text (Err fault) = (fault ≡ WriteFailed) × FallsShort held holds text

-- a script is answered, or the program ends as its site or its check does, or a help text or the version is printed
abbrev pub Does : Type 0 → SiteRun → CheckRun → Command → Option (List ℕ) → Option (List ℕ) → Option (List ℕ)
    → Option (List ℕ) → Ending → Type 0
Does A Ran Checked Sim given left held holds ending = Answered A given left held holds ending
Does A Ran Checked (Run config) given left held holds ending = (ended : Result (Unit {0}) SiteFault)
    × Ran config ended × (ending ≡ ending_of_site ended)
Does A Ran Checked (CheckJournal check) given left held holds ending = (ended : Result (Unit {0}) CheckFault)
    × Checked check ended × (ending ≡ ending_of_check ended)
Does A Ran Checked (Help text) given left held holds ending = Prints held holds text ending
Does A Ran Checked Version given left held holds ending = Prints held holds VERSION.now ending

-- the words give the settings of a site, and a site ran with them and ended in this way; or memory ran out before
-- that, and then this holds
abbrev pub EndsAsSite : SiteRun → Type 0 → Asked → Ending → Type 0
EndsAsSite Ran Unchanged asked ending = ((ending ≡ Err OutOfMemory) × Unchanged)
    ⊎ ((s : Settings) × RunsSite asked s × (ended : Result (Unit {0}) SiteFault) × Ran s ended
    × (ending ≡ ending_of_site ended))

-- the words name a journal, and it was checked, and that ended in this way; or memory ran out before that, and then
-- this holds
abbrev pub EndsAsCheck : CheckRun → Type 0 → Asked → Ending → Type 0
EndsAsCheck Checked Unchanged asked ending = ((ending ≡ Err OutOfMemory) × Unchanged)
    ⊎ ((c : Check) × AsksForCheck asked c × (ended : Result (Unit {0}) CheckFault) × Checked c ended
    × (ending ≡ ending_of_check ended))

-- the command reads no input
abbrev pub ReadsNone : Command → Type 0
ReadsNone (CheckJournal check) = ⊤
ReadsNone (Help text) = ⊤
ReadsNone Version = ⊤
ReadsNone command = ⊥
