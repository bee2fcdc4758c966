-- How the program may end, by the command that it carried out.
use Rattle.std.proofs.Common.{◌≡◌, ◌≢◌, false, refl, sym, subst, inr, ℕ, List, Option, Result, Ok, Err}
use Rattle.clap.specs.Walk.{Text}
use Rattle.line_streams.specs.declared.fault.ConversationError.{ConversationError}
use Rattle.site_words.specs.Asked.{Asked, asked_by, nothing, script, version}
use Rattle.site_words.specs.Checks.{Check}
use Rattle.site_words.specs.Settings.{Settings}
use Rattle.site_words.specs.declared.fault.CheckFault.{CheckFault}
use Rattle.site_words.specs.Words.{AsksForCheck, MayAnswer, MayRefuse, RunsSite, WantsHelp}
use Rattle.site_words.specs.declared.fault.SiteFault.{SiteFault}
use Rattle.site_words.specs.declared.words.Command.{Command}
use Rattle.site_words.specs.declared.words.WordsFault.{WordsFault}
use Rattle.site_words.specs.declared.words.WordsFault.TheVariants as words
use Rattle.site_words.specs.declared.words.Command.TheVariants.{Sim, Run, CheckJournal, Help, Version}
use Rattle.rights_program.specs.Commands.{CheckRun, Does, EndsAsCheck, EndsAsSite, Prints, ReadsNone, SiteRun}
use Rattle.rights_program.specs.Commands.{ending_of_check, ending_of_site}
use Rattle.rights_program.specs.Endings.{Ending, IsCheck, IsRun, MayEnd, reads}
use Rattle.rights_program.specs.Runs.{Ends}
use Rattle.rights_program.specs.declared.run.Ended.{Ended}
use Rattle.rights_program.specs.Scripts.{Answered, ending_of_script}
use Rattle.rights_program.specs.declared.fault.ProgramError.TheVariants.{BadCommandLine}
use Rattle.rights_program.specs.declared.version.TheConstants.{VERSION}
use Rattle.rights_program.proofs.Endings.{script_may_stop, script_may_be_done, script_reads, script_not_bad}
use Rattle.rights_program.proofs.Endings.{site_may_stop, site_may_be_done, site_reads, site_no_script, site_no_nothing}
use Rattle.rights_program.proofs.Endings.{site_no_help, site_no_refusal, site_not_bad}
use Rattle.rights_program.proofs.Endings.{check_may_stop, check_may_be_done, check_no_script, check_no_nothing}
use Rattle.rights_program.proofs.Endings.{check_no_site, check_no_help, check_no_refusal, check_not_bad}
use Rattle.rights_program.proofs.Endings.{help_may_stop, help_may_be_done, help_no_script}
use Rattle.rights_program.proofs.Endings.{help_no_nothing, version_may_stop, version_may_be_done}

pub script_ends : (a : Asked) (ended : Result (Unit {0}) ConversationError) → a ≡ script
    → MayEnd a (ending_of_script ended)
script_ends a (Ok done) same = script_may_be_done a same
script_ends a (Err cause) same = script_may_stop a cause same

pub command_may_end : (A : Type 0) (Ran : SiteRun) (Checked : CheckRun)
    (given left held holds : Option (List ℕ)) (a : Asked)
    (command : Command) (ending : Ending)
    → MayAnswer a (Ok command) → Does A Ran Checked command given left held holds ending → MayEnd a ending
command_may_end A Ran Checked given left held holds a Sim ending same (ended, is, talk, ends)
    = subst (λ e. MayEnd a e) (sym is) (script_ends a ended same)
command_may_end A Ran Checked given left held holds a (Run config) ending runs (Ok done, ran, is)
    = subst (λ e. MayEnd a e) (sym is) (site_may_be_done a config runs)
command_may_end A Ran Checked given left held holds a (Run config) ending runs (Err cause, ran, is)
    = subst (λ e. MayEnd a e) (sym is) (site_may_stop a config cause runs)
command_may_end A Ran Checked given left held holds a (CheckJournal c) ending asks (Ok done, checked, is)
    = subst (λ e. MayEnd a e) (sym is) (check_may_be_done a c asks)
command_may_end A Ran Checked given left held holds a (CheckJournal c) ending asks (Err cause, checked, is)
    = subst (λ e. MayEnd a e) (sym is) (check_may_stop a c cause asks)
command_may_end A Ran Checked given left held holds a (Help text) (Ok done) wants printed = help_may_be_done a wants
command_may_end A Ran Checked given left held holds a (Help text) (Err fault) wants (is, front)
    = subst (λ f. MayEnd a (Err f)) (sym is) (help_may_stop a wants)
command_may_end A Ran Checked given left held holds a Version (Ok done) same printed = version_may_be_done a same
command_may_end A Ran Checked given left held holds a Version (Err fault) same (is, front)
    = subst (λ f. MayEnd a (Err f)) (sym is) (version_may_stop a same)

pub script_answered : (A : Type 0) (Ran : SiteRun) (Checked : CheckRun)
    (given left held holds : Option (List ℕ)) (a : Asked)
    (command : Command) (ending : Ending)
    → MayAnswer a (Ok command) → Does A Ran Checked command given left held holds ending → a ≡ script
    → Answered A given left held holds ending
script_answered A Ran Checked given left held holds a Sim ending may does same = does
script_answered A Ran Checked given left held holds a (Run config) ending runs does same
    = absurd (site_no_script a config runs same)
script_answered A Ran Checked given left held holds a (CheckJournal c) ending asks does same
    = absurd (check_no_script a c asks same)
script_answered A Ran Checked given left held holds a (Help text) ending wants does same
    = absurd (help_no_script a wants same)
script_answered A Ran Checked given left held holds a Version ending is does same = cc

pub version_printed : (A : Type 0) (Ran : SiteRun) (Checked : CheckRun)
    (given left held holds : Option (List ℕ)) (a : Asked)
    (command : Command) (ending : Ending)
    → MayAnswer a (Ok command) → Does A Ran Checked command given left held holds ending → a ≡ version
    → Prints held holds VERSION.now ending
version_printed A Ran Checked given left held holds a Sim ending may does same = cc
version_printed A Ran Checked given left held holds a (Run config) ending runs does same
    = absurd (subst (λ a. RunsSite a config) same runs)
version_printed A Ran Checked given left held holds a (CheckJournal c) ending asks does same
    = absurd (subst (λ a. AsksForCheck a c) same asks)
version_printed A Ran Checked given left held holds a (Help text) ending wants does same
    = absurd (subst WantsHelp same wants)
version_printed A Ran Checked given left held holds a Version ending is does same = does

-- a request for the version is not refused, and needs no memory
pub none_refused : (a : Asked) (fault : WordsFault) → MayAnswer a (Err fault) → a ≡ version → ⊥
none_refused a words.Refused h same = subst MayRefuse same h
none_refused a words.OutOfMemory h same = h same

-- only a script and a site read
pub none_read : (a : Asked) (command : Command) → MayAnswer a (Ok command) → reads a ≡ false
    → ReadsNone command
none_read a Sim same none = absurd (script_reads a same none)
none_read a (Run config) runs none = absurd (site_reads a config runs none)
none_read a (CheckJournal c) asks none = tt
none_read a (Help text) wants none = tt
none_read a Version is none = tt

pub nothing_is_no_command : (a : Asked) (command : Command) → MayAnswer a (Ok command) → a ≡ nothing → ⊥
nothing_is_no_command a Sim same none = cc
nothing_is_no_command a (Run config) runs none = site_no_nothing a config runs none
nothing_is_no_command a (CheckJournal c) asks none = check_no_nothing a c asks none
nothing_is_no_command a (Help text) wants none = help_no_nothing a wants none
nothing_is_no_command a Version is none = cc

pub command_not_bad : (A : Type 0) (Ran : SiteRun) (Checked : CheckRun) (given left held holds : Option (List ℕ))
    (command : Command)
    (ending : Ending)
    → Does A Ran Checked command given left held holds ending → ending ≢ Err BadCommandLine
command_not_bad A Ran Checked given left held holds Sim ending (Ok done, is, talk, ends) bad = cc
command_not_bad A Ran Checked given left held holds Sim ending (Err cause, is, talk, ends) bad = script_not_bad cause cc
command_not_bad A Ran Checked given left held holds (Run config) ending (Ok done, ran, is) bad = cc
command_not_bad A Ran Checked given left held holds (Run config) ending (Err cause, ran, is) bad = site_not_bad cause cc
command_not_bad A Ran Checked given left held holds (CheckJournal c) ending (Ok done, checked, is) bad = cc
command_not_bad A Ran Checked given left held holds (CheckJournal c) ending (Err cause, checked, is) bad
    = check_not_bad cause cc
command_not_bad A Ran Checked given left held holds (Help text) (Ok done) printed bad = cc
command_not_bad A Ran Checked given left held holds (Help text) (Err fault) (is, front) bad = cc
command_not_bad A Ran Checked given left held holds Version (Ok done) printed bad = cc
command_not_bad A Ran Checked given left held holds Version (Err fault) (is, front) bad = cc

pub did_script : (A : Type 0) (Ran : SiteRun) (Checked : CheckRun)
    (given left held holds : Option (List ℕ)) (command : Command)
    (ending : Ending)
    → command ≡ Sim → Answered A given left held holds ending → Does A Ran Checked command given left held holds ending
did_script A Ran Checked given left held holds command ending is done
    = subst (λ k. Does A Ran Checked k given left held holds ending) (sym is) done

pub did_site : (A : Type 0) (Ran : SiteRun) (Checked : CheckRun)
    (given left held holds : Option (List ℕ)) (command : Command)
    (config : Settings) (ended : Result (Unit {0}) SiteFault) (ending : Ending)
    → command ≡ Run config → Ran config ended → ending ≡ ending_of_site ended
    → Does A Ran Checked command given left held holds ending
did_site A Ran Checked given left held holds command config ended ending is ran same
    = subst (λ k. Does A Ran Checked k given left held holds ending) (sym is) (ended, ran, same)

-- words that give settings run a site
pub ends_as_site : (A : Type 0) (Ran : SiteRun) (Checked : CheckRun) (Unchanged : Type 0)
    (given left held holds : Option (List ℕ))
    (a : Asked) (command : Command) (ending : Ending)
    → MayAnswer a (Ok command) → Does A Ran Checked command given left held holds ending → IsRun a
    → EndsAsSite Ran Unchanged a ending
ends_as_site A Ran Checked Unchanged given left held holds a Sim ending same does (s, runs)
    = absurd (site_no_script a s runs same)
ends_as_site A Ran Checked Unchanged given left held holds a (Run config) ending runs (ended, ran, is) found
    = inr (config, runs, ended, ran, is)
ends_as_site A Ran Checked Unchanged given left held holds a (CheckJournal c) ending asks does (s, runs)
    = absurd (check_no_site a c s asks runs)
ends_as_site A Ran Checked Unchanged given left held holds a (Help text) ending wants does (s, runs)
    = absurd (site_no_help a s runs wants)
ends_as_site A Ran Checked Unchanged given left held holds a Version ending is does (s, runs)
    = absurd (subst (λ a. RunsSite a s) is runs)

-- words that name a journal have it checked
pub ends_as_check : (A : Type 0) (Ran : SiteRun) (Checked : CheckRun) (Unchanged : Type 0)
    (given left held holds : Option (List ℕ)) (a : Asked) (command : Command) (ending : Ending)
    → MayAnswer a (Ok command) → Does A Ran Checked command given left held holds ending → IsCheck a
    → EndsAsCheck Checked Unchanged a ending
ends_as_check A Ran Checked Unchanged given left held holds a Sim ending same does (c, asks)
    = absurd (check_no_script a c asks same)
ends_as_check A Ran Checked Unchanged given left held holds a (Run config) ending runs does (c, asks)
    = absurd (check_no_site a c config asks runs)
ends_as_check A Ran Checked Unchanged given left held holds a (CheckJournal c) ending asks (ended, checked, is) found
    = inr (c, asks, ended, checked, is)
ends_as_check A Ran Checked Unchanged given left held holds a (Help text) ending wants does (c, asks)
    = absurd (check_no_help a c asks wants)
ends_as_check A Ran Checked Unchanged given left held holds a Version ending is does (c, asks)
    = absurd (subst (λ a. AsksForCheck a c) is asks)

-- and are refused only for lack of memory
pub site_not_refused : (a : Asked) (fault : WordsFault) → MayAnswer a (Err fault) → IsRun a
    → fault ≡ words.OutOfMemory
site_not_refused a words.Refused h (s, runs) = absurd (site_no_refusal a s runs h)
site_not_refused a words.OutOfMemory h found = refl

pub check_not_refused : (a : Asked) (fault : WordsFault) → MayAnswer a (Err fault) → IsCheck a
    → fault ≡ words.OutOfMemory
check_not_refused a words.Refused h (c, asks) = absurd (check_no_refusal a c asks h)
check_not_refused a words.OutOfMemory h found = refl

-- the same words end in the same way
pub ends_for : (A : Type 0) (Ran : SiteRun) (Checked : CheckRun) (Unchanged : Type 0)
    (given left held holds old new : Option (List ℕ))
    (ended : Ended) (words again : List Text) → words ≡ again
    → Ends A Ran Checked Unchanged (asked_by words) given left held holds old new ended
    → Ends A Ran Checked Unchanged (asked_by again) given left held holds old new ended
ends_for A Ran Checked Unchanged given left held holds old new ended words again same ends
    = subst (λ ts. Ends A Ran Checked Unchanged (asked_by ts) given left held holds old new ended) same ends

-- how each command ends
pub ruleset commands = (
  command_may_end,
  script_answered,
  version_printed,
  none_read,
  nothing_is_no_command,
  command_not_bad,
  ends_as_site,
  ends_as_check,
)
