use Rattle.rights_protocol.specs.Schedules.LocalChange.{Other}
use Rattle.std.proofs.Common.{rules}
use Rattle.std.proofs.Common.{ap}
use Rattle.site_core.specs.Desks.{DeskValue}
use Rattle.apply_lanes.proofs.StepLaws.{seen, steps_none}
use Rattle.apply_lanes.proofs.kept.Kept.status.Goals as goal

pub returns-clause-outcome : goal.returns-clause-outcome
returns-clause-outcome g c = search rules

pub returns-clause-step : goal.returns-clause-step
returns-clause-step g c =
    seen g.D.DeskNames.id _ _ Other c.status.new.self c.self.view_is
    (steps_none g.D.DeskNames.id c.self.inside.desk c.status.new.self
    (ap (λ (d : DeskValue). d.ledger) c.status.ensures.rest))
