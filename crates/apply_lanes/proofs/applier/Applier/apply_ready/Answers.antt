use Rattle.std.proofs.Common.{◌≡◌, ℕ, suc, ◌+◌, ◌≤◌, ◌∙◌, sym, ap, subst, arith}
use Rattle.std.proofs.lemmas.Result.{err_from_is_err_and}
use Rattle.thread_parts.specs.Ends.{OutletValue}
use Rattle.apply_lanes.specs.Kepts.{KeptValue}
use Rattle.apply_lanes.specs.Appliers.{ApplierValue, Fills}
use Rattle.apply_lanes.specs.Batches.{HandlesAll, BatchFails}
use Rattle.apply_lanes.proofs.BatchLaws.{handled, kept_next, after_some}
use Rattle.apply_lanes.proofs.applier.Applier.apply_ready.Goals as goal

pub returns-in_err-apply_in-in-Some-true-clause-err : goal.returns-in_err-apply_in-in-Some-true-clause-err
returns-in_err-apply_in-in-Some-true-clause-err g c =
    let id = g.D.DeskNames.id in
    let taken : ApplierValue g.row.G.Denot g.row.A.Denot = c.fill_ready.new.self in
    let fills = subst (λ b. Fills c.loop-count.self b taken) c.in-Some-true.field-0-test c.in-Some-true.ensures.some in
    let e = c.in_err-apply_in-in-Some-true.ensures in
    let keeps = kept_next id c.loop-count.self taken c.loop-count.kept c.in_err-apply_in-in-Some-true.field-0.0 fills
    e.kept e.refused e.memory in
    let err = err_from_is_err_and c.from_residual.result c.from_residual.ensures.1 in
    rw (err.1, err.2)
    (subst (λ (x : ApplierValue g.row.G.Denot g.row.A.Denot × KeptValue). BatchFails id c.args.self.now c.args.kept.now
    c.in_err-apply_in-in-Some-true.field-0.0 x.0 x.1)
    (λ i. (sym e.err.0 i, sym e.err.1 i)) (c.loop-count.count, c.loop-count-test.true, c.loop-count.self, c.loop-count.invariant.0, keeps))

pub returns-in-Some-false-clause-ok : goal.returns-in-Some-false-clause-ok
returns-in-Some-false-clause-ok g c = (
  c.loop-count.self,
  c.loop-count.invariant.0,
  subst (λ b. Fills c.loop-count.self b c.fill_ready.new.self) c.in-Some-false.field-0-test
      c.in-Some-false.ensures.some,
)

pub loop-count-preserved : goal.loop-count-preserved
loop-count-preserved g c =
    let id = g.D.DeskNames.id in
    let taken : ApplierValue g.row.G.Denot g.row.A.Denot = c.fill_ready.new.self in
    let fills = subst (λ b. Fills c.loop-count.self b taken) c.in-Some-true.field-0-test c.in-Some-true.ensures.some in
    let e = c.in_ok-apply_in-in-Some-true.ensures in
    let one = handled id c.loop-count.self taken c.apply_in.new.self c.loop-count.kept c.apply_in.new.kept fills e.kept
    e.refused e.dropped e.applied e.desk e.step e.records e.after in
    let count : suc c.loop-count.count ≡ c.loop-count.count + 1 = omega arith in
    let same = c.in-Some-true.ensures.same in (
      subst (λ (n : ℕ). HandlesAll id c.args.self.now c.args.kept.now n c.apply_in.new.self c.apply_in.new.kept) count
          (c.loop-count.self, c.loop-count.kept, c.loop-count.invariant.0, one),
      e.same.0 ∙ same.0 ∙ c.loop-count.invariant.1,
      ap (λ (o : OutletValue g.row.A.Denot). o.lane) e.same.1 ∙ same.1 ∙ c.loop-count.invariant.2,
      omega (arith, c.loop-count-test.true),
    )

pub returns-clause-ok : goal.returns-clause-ok
returns-clause-ok g c =
    let some : 1 ≤ c.loop-count.count = omega (arith, c.loop-count-test.false) in
    (c.loop-count.invariant.0, (after_some g.D.DeskNames.id _ _ _ _ _ some c.loop-count.invariant.0).0)

pub returns-clause-counted : goal.returns-clause-counted
returns-clause-counted g c =
    let some : 1 ≤ c.loop-count.count = omega (arith, c.loop-count-test.false) in
    (after_some g.D.DeskNames.id _ _ _ _ _ some c.loop-count.invariant.0).1
