use Rattle.std.proofs.Common.{sym, subst}
use Rattle.std.proofs.lemmas.Result.{err_from_is_err_and}
use Rattle.apply_lanes.specs.Kepts.{KeptValue}
use Rattle.apply_lanes.specs.Appliers.{ApplierValue, StepFails}
use Rattle.apply_lanes.proofs.ApplierLaws.{comes_to_desk, step_done, step_failed}
use Rattle.apply_lanes.proofs.applier.Applier.step.Goals as goal

pub returns-in_err-apply_in-clause-err : goal.returns-in_err-apply_in-clause-err
returns-in_err-apply_in-clause-err g c =
    let kept : KeptValue = c.deref_mut.result.now in
    let more = rw c.if-not-branch.false at c.in_ok-fill.ensures.ok in
    let comes = comes_to_desk g.G.Gate.passes g.D.DeskNames.id c.args.self.now c.fill.new.self c.pass.new.self kept more
    c.pass.ensures.passes c.pass.ensures.rest c.in_err-apply_in.ensures.kept in
    let failed = step_failed g.G.Gate.passes g.D.DeskNames.id c.args.self.now c.pass.new.self kept comes.0
    c.in_err-apply_in.field-0.0 comes.1 (c.in_err-apply_in.ensures.refused comes.0 comes.2)
    (λ is none. c.in_err-apply_in.ensures.memory comes.0 comes.2 none is) in
    let err = err_from_is_err_and c.from_residual-in_err-apply_in.result c.from_residual-in_err-apply_in.ensures.1 in
    rw (err.1, err.2) (subst (λ (a : ApplierValue g.row.G.Denot g.row.A.Denot). StepFails g.G.Gate.passes
    g.D.DeskNames.id c.args.self.now c.in_err-apply_in.field-0.0 a) (sym c.in_err-apply_in.ensures.err.0) failed)

pub returns-clause-ok : goal.returns-clause-ok
returns-clause-ok g c =
    let kept : KeptValue = c.deref_mut.result.now in
    let more = rw c.if-not-branch.false at c.in_ok-fill.ensures.ok in
    let comes = comes_to_desk g.G.Gate.passes g.D.DeskNames.id c.args.self.now c.fill.new.self c.pass.new.self kept more
    c.pass.ensures.passes c.pass.ensures.rest c.in_ok-apply_in.ensures.kept in
    step_done g.G.Gate.passes g.D.DeskNames.id c.args.self.now c.pass.new.self c.apply_in.new.self kept comes.0 comes.1
    (c.in_ok-apply_in.ensures.refused comes.0 comes.2)
    (λ late. (c.in_ok-apply_in.ensures.dropped late).0) (λ late. c.in_ok-apply_in.ensures.applied late comes.0 comes.2)
