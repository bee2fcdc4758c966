use Rattle.std.proofs.Common.{◌≡◌}
use Rattle.std.specs.Prelude.{map}
use Rattle.std.specs.List.{range_with_len}
use Rattle.site_core.specs.Desks.{new_desk}
use Rattle.world_core.specs.Worlds.{new_row}
use Rattle.world_core.proofs.system.System.new.Given as goal

abbrev pub invariant-loop-index : goal.invariant-loop-index
invariant-loop-index g l = record {
  desks : l.desks.items ≡ map (λ s. new_desk s l.sites) (range_with_len 1 l.index);
  links : l.links.items ≡ map (new_row l.sites) (range_with_len 1 l.index);
}
