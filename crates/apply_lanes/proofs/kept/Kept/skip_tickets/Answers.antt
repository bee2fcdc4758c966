use Rattle.std.proofs.Common.{ap}
use Rattle.rights_protocol.specs.Schedules.LocalChange.{Other}
use Rattle.site_core.specs.Desks.{DeskValue}
use Rattle.apply_lanes.proofs.StepLaws.{seen, steps_none}
use Rattle.apply_lanes.proofs.kept.Kept.skip_tickets.Goals as goal

pub returns-clause-step : goal.returns-clause-step
returns-clause-step g c =
    let id = g.D.DeskNames.id in
    seen id _ _ Other c.skip_tickets.new.self c.self.view_is
    (steps_none id c.self.inside.desk c.skip_tickets.new.self (ap (λ (d : DeskValue). d.ledger) c.skip_tickets.ensures))
