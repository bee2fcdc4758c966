use Rattle.std.proofs.Common.{◌≡◌, take}
use Rattle.world_core.proofs.world.readers.copy_of.Given as goal

abbrev pub invariant-loop-index : goal.invariant-loop-index
invariant-loop-index g l = l.copy.items ≡ take l.index l.log.entries
