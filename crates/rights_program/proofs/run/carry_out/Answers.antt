use Rattle.std.proofs.Common.{◌∙◌, ap, refl, Ok, Err}
use Rattle.std.proofs.lemmas.Result.{err_from_is_err_and}
use Rattle.rights_program.proofs.Commands.{did_script}
use Rattle.rights_program.proofs.run.carry_out.Goals as goal

pub returns-in_err-run_last_script-in-Sim-clause-does : goal.returns-in_err-run_last_script-in-Sim-clause-does
returns-in_err-run_last_script-in-Sim-clause-does g c =
    let p = err_from_is_err_and c.from_residual.result c.from_residual.ensures.1 in
    let ran = c.in_err-run_last_script-in-Sim.ensures.ends in
    did_script _ _ _ _ _ _ _ _ _ c.in-Sim.is
    (Err c.in_err-run_last_script-in-Sim.field-0.0, p.1 ∙ ap Err p.2, ran.0, ran.1)

pub returns-in_ok-run_last_script-in-Sim-clause-does : goal.returns-in_ok-run_last_script-in-Sim-clause-does
returns-in_ok-run_last_script-in-Sim-clause-does g c =
    let ran = c.in_ok-run_last_script-in-Sim.ensures.ends in
    did_script _ _ _ _ _ _ _ _ _ c.in-Sim.is (Ok tt, refl, ran.0, ran.1)
