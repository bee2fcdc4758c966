use Rattle.std.proofs.Common.{◌≡◌}
use Rattle.rights_types.specs.Rights.{sum_sites}
use Rattle.world_core.specs.Worlds.{on_way}
use Rattle.world_core.proofs.world.World.way_from.Given as goal

abbrev pub invariant-loop-index : goal.invariant-loop-index
invariant-loop-index g l = l.way ≡ sum_sites l.index (λ s. on_way l.self l.origin s)
