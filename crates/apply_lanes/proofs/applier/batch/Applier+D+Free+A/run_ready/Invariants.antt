use Rattle.std.proofs.Common.{◌≡◌, ℕ}
use Rattle.apply_lanes.specs.Appliers.{Advances}
use Rattle.apply_lanes.specs.Batches.{stays}
use Rattle.apply_lanes.proofs.applier.batch.Applier+D+Free+A.run_ready.Given as goal

-- some number of steps led from the start to here
abbrev pub invariant-loop : goal.invariant-loop
invariant-loop g l =
    ((n : ℕ) × Advances stays g.D.DeskNames.id l.initial.self n l.self)
    × (l.self.origin ≡ l.initial.self.origin) × (l.self.outlet.lane ≡ l.initial.self.outlet.lane)
