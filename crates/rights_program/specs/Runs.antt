-- How a run of the program ends, by what its words ask for.
use Rattle.std.specs.Prelude.{◌≡◌, ℕ, List, Option}
use Rattle.site_words.specs.Asked.{Asked, script, version}
use Rattle.rights_program.specs.Commands.{CheckRun, EndsAsCheck, EndsAsSite, Prints, SiteRun}
use Rattle.rights_program.specs.Endings.{Ending, EndsWith, IsCheck, IsRun, MayEnd}
use Rattle.rights_program.specs.Scripts.{Answered}
use Rattle.rights_program.specs.declared.run.Ended.{Ended}
use Rattle.rights_program.specs.declared.version.TheConstants.{VERSION}

-- there is one ending: the words allow it, the status and the line on standard error are its own, and a script, a
-- request for the version, a site, or a check came to it. The streams are the input, the output and standard error.
pub record Ends (A : Type 0) (Ran : SiteRun) (Checked : CheckRun) (Unchanged : Type 0) (asked : Asked)
    (given left held holds old new : Option (List ℕ)) (ended : Ended) : Type 0 where
  pub ending : Ending
  pub may : MayEnd asked ending
  pub by_script : asked ≡ script → Answered A given left held holds ending
  pub by_version : asked ≡ version → Prints held holds VERSION.now ending
  pub by_site : IsRun asked → EndsAsSite Ran Unchanged asked ending
  pub by_check : IsCheck asked → EndsAsCheck Checked Unchanged asked ending
  pub told : EndsWith ended old new ending
