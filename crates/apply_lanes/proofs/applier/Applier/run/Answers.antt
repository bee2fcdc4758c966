use Rattle.std.proofs.Common.{◌≡◌, suc, ◌+◌, ◌∙◌, subst, arith}
use Rattle.std.proofs.lemmas.Result.{err_from_is_err_and}
use Rattle.apply_lanes.specs.Appliers.{Advances, Steps}
use Rattle.apply_lanes.proofs.ApplierLaws.{step_same}
use Rattle.apply_lanes.proofs.applier.Applier.run.Goals as goal

pub returns-then-not-branch-clause-ok : goal.returns-then-not-branch-clause-ok
returns-then-not-branch-clause-ok g c =
    let id = g.D.DeskNames.id in
    let passes = g.G.Gate.passes in
    let last = subst (λ more. Steps passes id c.loop-count.self more c.step.new.self) c.if-not-branch.true
    c.in_ok-step.ensures.ok in
    (c.loop-count.self, c.loop-count.invariant.0, last)

pub loop-count-preserved : goal.loop-count-preserved
loop-count-preserved g c =
    let id = g.D.DeskNames.id in
    let passes = g.G.Gate.passes in
    let one = subst (λ more. Steps passes id c.loop-count.self more c.step.new.self) c.if-not-branch.false
    c.in_ok-step.ensures.ok in
    let same = step_same passes id c.loop-count.self c.step.new.self one in
    let count : suc c.loop-count.count ≡ c.loop-count.count + 1 = omega arith in (
      subst (λ n. Advances passes id c.args.self.now n c.step.new.self) count
          (c.loop-count.self, c.loop-count.invariant.0, one),
      same.0 ∙ c.loop-count.invariant.1,
      same.1 ∙ c.loop-count.invariant.2,
    )

pub returns-in_err-step-clause-err : goal.returns-in_err-step-clause-err
returns-in_err-step-clause-err g c =
    let err = err_from_is_err_and c.from_residual.result c.from_residual.ensures.1 in
    rw (err.1, err.2) (c.loop-count.count, c.loop-count.self, c.loop-count.invariant.0, c.in_err-step.ensures.err)
