use Rattle.std.proofs.Common.{inl, inr, refl}
use Rattle.rights_program.specs.Arguments.{arguments}
use Rattle.rights_program.specs.declared.fault.ProgramError.TheVariants.{OutOfMemory}
use Rattle.rights_program.proofs.Endings.{either}
use Rattle.rights_program.proofs.given.run_given.Goals as goal

pub returns-in-Ok : goal.returns-in-Ok
returns-in-Ok g c =
    either (λ ran. inl (arguments c.deref.result.now, ran)) (λ none. inr (OutOfMemory, tt, none.0, none.1, none.2))
    c.run_arguments.ensures.ends

pub returns-in-Err : goal.returns-in-Err
returns-in-Err g c =
    inr (c.in-Err.fault, c.in-Err.ensures, (c.report.ensures.status, c.report.ensures.says), refl, refl)
