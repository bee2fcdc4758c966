use Rattle.rights_protocol.specs.Schedules.LocalChange.{Other}
use Rattle.apply_lanes.proofs.StepLaws.{seen, steps_expire}
use Rattle.apply_lanes.proofs.kept.Kept.expire.Goals as goal

pub returns-clause-step : goal.returns-clause-step
returns-clause-step g c =
    seen g.D.DeskNames.id _ _ Other c.expire.new.self c.self.view_is
    (steps_expire g.D.DeskNames.id c.self.inside.desk c.expire.new.self c.args.time c.expire.result c.expire.ensures.ok
    c.expire.ensures.err)
