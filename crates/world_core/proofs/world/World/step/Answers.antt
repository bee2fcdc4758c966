use Rattle.world_core.proofs.WorldLaws.{step_goes_on}
use Rattle.world_core.proofs.world.World.step.Goals as goal

pub invariant_of-self : goal.invariant_of-self
invariant_of-self g c =
    (step_goes_on c.self.inside.system c.happen.new.self c.args.event c.happen.result c.self.invariant
    c.happen.ensures).is
