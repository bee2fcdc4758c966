use Rattle.std.proofs.Common.{sym, subst}
use Rattle.world_core.specs.Sound.{IsWorld}
use Rattle.world_core.proofs.StartLaws.{start_world}
use Rattle.world_core.proofs.world.World.start.Goals as goal

pub invariant_of-result : goal.invariant_of-result
invariant_of-result g c = subst IsWorld (sym c.in_ok-new.ensures) (start_world c.args.sites c.requires.0 c.requires.1)
