use Rattle.std.proofs.Common.{◌≡◌}
use Rattle.std.specs.Prelude.{map}
use Rattle.std.specs.List.{range_with_len}
use Rattle.world_core.specs.Worlds.{link_to}
use Rattle.world_core.proofs.links.Links.new.Given as goal

abbrev pub invariant-loop-index : goal.invariant-loop-index
invariant-loop-index g l = l.links.items ≡ map (link_to l.sites l.me) (range_with_len 1 l.index)
