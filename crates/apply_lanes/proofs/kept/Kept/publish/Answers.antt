use Rattle.std.proofs.Common.{rules}
use Rattle.std.specs.Prelude.{OnOk}
use Rattle.std.proofs.Common.{subst}
use Rattle.rights_protocol.specs.Schedules.LocalChange.{Other}
use Rattle.apply_lanes.specs.Kepts.{KeptValue}
use Rattle.apply_lanes.specs.Steps.{StepsBy}
use Rattle.apply_lanes.proofs.KeptLaws.{kept_publish}
use Rattle.apply_lanes.proofs.StepLaws.{steps_publish_if}
use Rattle.apply_lanes.proofs.kept.Kept.publish.Goals as goal

pub returns-clause-line : goal.returns-clause-line
returns-clause-line g c = search rules

pub returns-clause-ok : goal.returns-clause-ok
returns-clause-ok g c = search rules

pub returns-clause-memory : goal.returns-clause-memory
returns-clause-memory g c = search rules

pub invariant_of-self : goal.invariant_of-self
invariant_of-self g c = kept_publish _ _ c.publish.new.self c.args.peer c.publish.result c.self.invariant
    c.publish.ensures.ok c.publish.ensures.err

pub returns-clause-step : goal.returns-clause-step
returns-clause-step g c =
    subst (λ (k : KeptValue). OnOk c.publish.result (StepsBy g.D.DeskNames.id k.desk Other c.publish.new.self))
    c.self.view_is
    (steps_publish_if g.D.DeskNames.id c.self.inside.desk c.publish.new.self c.args.peer c.publish.result
    c.publish.ensures.ok)
