use Rattle.std.proofs.Common.{◌≡◌}
use Rattle.rights_types.specs.Chains.{moves_of}
use Rattle.rights_types.specs.Rights.{sum_sites, issued, spent}
use Rattle.world_core.specs.Worlds.{count, log, held_by, on_way}
use Rattle.world_core.proofs.world.World.totals.Given as goal

abbrev pub invariant-loop-index : goal.invariant-loop-index
invariant-loop-index g l = record {
  issued_is : l.totals.issued ≡ sum_sites l.index (λ s. issued (moves_of (log l.self s)));
  spent_is : l.totals.spent ≡ sum_sites l.index (λ s. spent (moves_of (log l.self s)));
  held_is : l.totals.held ≡ sum_sites l.index (held_by l.self);
  way_is : l.totals.way ≡ sum_sites l.index (λ o. sum_sites (count l.self) (λ s. on_way l.self o s));
}
