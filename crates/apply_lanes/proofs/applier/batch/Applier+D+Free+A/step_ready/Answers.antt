use Rattle.std.proofs.Common.{refl, subst, sym}
use Rattle.std.proofs.lemmas.Result.{err_from_is_err_and}
use Rattle.apply_lanes.specs.Appliers.{Fills}
use Rattle.apply_lanes.specs.Batches.{ReadyFails}
use Rattle.apply_lanes.proofs.BatchLaws.{ready_oks, ready_errs}
use Rattle.apply_lanes.proofs.applier.batch.Applier+D+Free+A.step_ready.Goals as goal

pub returns-clause-ok : goal.returns-clause-ok
returns-clause-ok g c =
    let fills = subst (λ b. Fills c.args.self.now b c.fill_soon.new.self) c.if-not-branch.false
    c.in_ok-fill_soon.ensures.ok in
    ready_oks g.D.DeskNames.id c.args.self.now c.fill_soon.new.self c.apply_ready.new.self c.deref_mut.result.now
    c.apply_ready.new.kept c.apply_ready.result fills
    c.apply_ready.ensures.ok

pub returns-clause-err : goal.returns-clause-err
returns-clause-err g c =
    let fills = subst (λ b. Fills c.args.self.now b c.fill_soon.new.self) c.if-not-branch.false
    c.in_ok-fill_soon.ensures.ok in
    ready_errs g.D.DeskNames.id c.args.self.now c.fill_soon.new.self c.apply_ready.new.self c.deref_mut.result.now
    c.apply_ready.new.kept c.apply_ready.result fills
    c.apply_ready.ensures.err

pub returns-in_err-fill_soon-clause-err : goal.returns-in_err-fill_soon-clause-err
returns-in_err-fill_soon-clause-err g c =
    let old = c.args.self.now in
    let none = c.in_err-fill_soon.ensures.err in
    let err = err_from_is_err_and c.from_residual.result c.from_residual.ensures.1 in
    let fails = subst (λ fault. ReadyFails g.D.DeskNames.id old fault c.fill_soon.new.self) (sym none.0)
    (0, old, refl, (none.1, none.2)) in
    rw (err.1, err.2) fails

pub returns-then-not-branch-clause-ok : goal.returns-then-not-branch-clause-ok
returns-then-not-branch-clause-ok g c =
    let old = c.args.self.now in
    let ended = subst (λ more. Fills old more c.fill_soon.new.self) c.if-not-branch.true
    c.in_ok-fill_soon.ensures.ok in
    (old, refl, ended)
