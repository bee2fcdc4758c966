use Rattle.std.proofs.Common.{◌≡◌}
use Rattle.apply_lanes.specs.Appliers.{Advances}
use Rattle.apply_lanes.proofs.applier.Applier.run.Given as goal

-- this number of steps led from the start to here
abbrev pub invariant-loop-count : goal.invariant-loop-count
invariant-loop-count g l =
    Advances g.G.Gate.passes g.D.DeskNames.id l.initial.self l.count l.self
    × (l.self.origin ≡ l.initial.self.origin) × (l.self.outlet.lane ≡ l.initial.self.outlet.lane)
