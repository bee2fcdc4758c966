use Rattle.std.specs.Prelude.{⊤}
use Rattle.std.proofs.lemmas.Result.{err_from_is_err_and}
use Rattle.transfer_world.proofs.RunLaws.{script_done, script_failed, script_read}
use Rattle.transfer_world.proofs.script.session.Session.run.Goals as goal

pub returns-in_err-answer_lines-clause-ends : goal.returns-in_err-answer_lines-clause-ends
returns-in_err-answer_lines-clause-ends g c =
    let p = err_from_is_err_and c.from_residual.result c.from_residual.ensures.1 in
    rw (p.1, p.2) (script_failed g.row.A.Denot (λ before after. ⊤) _ _ _ _ _ _ c.requires _
    c.in_err-answer_lines.ensures.ends)

pub returns-clause-ends : goal.returns-clause-ends
returns-clause-ends g c =
    script_done g.row.A.Denot (λ before after. ⊤) _ _ _ _ _ _ c.requires c.in_ok-answer_lines.field-0
    c.in_ok-answer_lines.ensures.ends

pub returns-clause-all : goal.returns-clause-all
returns-clause-all g c =
    script_read g.row.A.Denot (λ before after. ⊤) _ _ _ _ _ _ c.in_ok-answer_lines.field-0
    c.in_ok-answer_lines.ensures.ends c.in_ok-answer_lines.ensures.all
