use Rattle.world_core.proofs.WorldLaws.{headline_of}
use Rattle.world_core.proofs.world.World.headline.Goals as goal

pub returns : goal.returns
returns g c = rw (← c.self.view_is) (headline_of _ c.self.invariant)
