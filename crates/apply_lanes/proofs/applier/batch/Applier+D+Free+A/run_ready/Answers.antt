use Rattle.std.proofs.Common.{subst, ◌∙◌}
use Rattle.std.proofs.lemmas.Result.{err_from_is_err_and}
use Rattle.apply_lanes.specs.Batches.{StepsReady}
use Rattle.apply_lanes.proofs.BatchLaws.{runs_on, runs_out, run_fails}
use Rattle.apply_lanes.proofs.applier.batch.Applier+D+Free+A.run_ready.Goals as goal

pub returns-in_err-more-clause-err : goal.returns-in_err-more-clause-err
returns-in_err-more-clause-err g c =
    let err = err_from_is_err_and c.from_residual.result c.from_residual.ensures.1 in
    rw (err.1, err.2)
    (run_fails g.D.DeskNames.id c.args.self.now c.loop.self c.step_ready.new.self c.loop.invariant.0.0 _
    c.loop.invariant.0.1 c.in_err-more.ensures.err)

pub returns-then-not-more-clause-ok : goal.returns-then-not-more-clause-ok
returns-then-not-more-clause-ok g c =
    let id = g.D.DeskNames.id in
    let last = subst (λ more. StepsReady id c.loop.self c.in_ok-more.field-0-0 more c.step_ready.new.self)
    c.if-not-more.true c.in_ok-more.ensures.ok in
    runs_out id c.args.self.now c.loop.self c.step_ready.new.self c.loop.invariant.0.0 c.in_ok-more.field-0-0
    c.loop.invariant.0.1 last

pub loop-preserved : goal.loop-preserved
loop-preserved g c =
    let id = g.D.DeskNames.id in
    let some = subst (λ more. StepsReady id c.loop.self c.in_ok-more.field-0-0 more c.step_ready.new.self)
    c.if-not-more.false c.in_ok-more.ensures.ok in (
      runs_on id c.args.self.now c.loop.self c.step_ready.new.self c.loop.invariant.0.0 c.in_ok-more.field-0-0
          c.loop.invariant.0.1 some,
      c.in_ok-more.ensures.same.0 ∙ c.loop.invariant.1,
      c.in_ok-more.ensures.same.1 ∙ c.loop.invariant.2,
    )
