use Rattle.std.proofs.Common.{◌≡◌, ◌+◌, ◌≤◌, ◌-◌}
use Rattle.apply_lanes.specs.declared.applier.batch.TheConstants.{MAX_BATCH}
use Rattle.apply_lanes.specs.Batches.{HandlesAll}
use Rattle.apply_lanes.proofs.applier.Applier.apply_ready.Given as goal

-- this number of entries, which is not too great, led from the start to here
abbrev pub invariant-loop-count : goal.invariant-loop-count
invariant-loop-count g l =
    HandlesAll g.D.DeskNames.id l.fn.self l.fn.kept l.count l.self l.kept
    × (l.self.origin ≡ l.fn.self.origin) × (l.self.outlet.lane ≡ l.fn.self.outlet.lane) × (l.count ≤ MAX_BATCH)

abbrev pub decreases-loop-count : goal.decreases-loop-count
decreases-loop-count g l = MAX_BATCH + 1 - l.count
