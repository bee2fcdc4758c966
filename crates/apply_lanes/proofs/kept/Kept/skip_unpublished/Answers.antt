use Rattle.std.proofs.Common.{subst, sym}
use Rattle.rights_protocol.specs.Schedules.LocalChange.{Other}
use Rattle.site_core.specs.Desks.{DeskValue}
use Rattle.apply_lanes.specs.Steps.{StepsBy}
use Rattle.apply_lanes.proofs.KeptLaws.{kept_skip}
use Rattle.apply_lanes.proofs.StepLaws.{seen, steps_skip}
use Rattle.apply_lanes.proofs.kept.Kept.skip_unpublished.Goals as goal

pub invariant_of-self : goal.invariant_of-self
invariant_of-self g c = kept_skip _ _ c.skip_unpublished.new.self c.args.peer c.self.invariant
    c.skip_unpublished.ensures

pub returns-clause-step : goal.returns-clause-step
returns-clause-step g c =
    let id = g.D.DeskNames.id in
    seen id _ _ Other c.skip_unpublished.new.self c.self.view_is
    (subst (λ (d : DeskValue). StepsBy id c.self.inside.desk Other d) (sym c.skip_unpublished.ensures)
    (steps_skip id c.self.inside.desk c.args.peer))
