use Rattle.std.proofs.Common.{◌≡◌, Some}
use Rattle.std.proofs.lemmas.Result.{IfOk-weaker, IfErr-weaker}
use Rattle.apply_lanes.specs.Kepts.{KeptValue, IsKept}
use Rattle.apply_lanes.specs.Appliers.{new_applier}
use Rattle.apply_lanes.specs.Admissions.{Admits, GivesApplier}
use Rattle.apply_lanes.proofs.shared_desk.SharedDesk.applier.Goals as goal

pub returns-clause-fresh : goal.returns-clause-fresh
returns-clause-fresh g c =
    let id = g.D.DeskNames.id in
    let old : KeptValue = c.deref_mut.result.now in
    let new : KeptValue = c.applier.new.self in
    IfOk-weaker c.applier.result (λ a. GivesApplier id old c.args.origin c.args.outlet c.args.gate a new)
    (λ a. a ≡ new_applier c.args.origin c.args.outlet c.args.gate) (λ a h. h.fresh) c.applier.ensures.ok

pub returns-clause-ok : goal.returns-clause-ok
returns-clause-ok g c =
    let id = g.D.DeskNames.id in
    let old : KeptValue = c.deref_mut.result.now in
    let new : KeptValue = c.applier.new.self in
    IfOk-weaker c.applier.result (λ a. GivesApplier id old c.args.origin c.args.outlet c.args.gate a new)
    (λ a. (k : KeptValue) × (l : KeptValue) × IsKept id k × IsKept id l
    × GivesApplier id k c.args.origin c.args.outlet c.args.gate a l)
    (λ a h. (old, new, c.applier.ensures.before, c.applier.ensures.after, h)) c.applier.ensures.ok

pub returns-clause-err : goal.returns-clause-err
returns-clause-err g c =
    let id = g.D.DeskNames.id in
    let old : KeptValue = c.deref_mut.result.now in
    let new : KeptValue = c.applier.new.self in
    IfErr-weaker c.applier.result (λ e. Admits id old.admitted c.args.origin (Some e.cause) × (new ≡ old))
    (λ e. (k : KeptValue) × IsKept id k × Admits id k.admitted c.args.origin (Some e.cause))
    (λ e h. (old, c.applier.ensures.before, h.0))
    c.applier.ensures.err
