use Rattle.std.proofs.Common.{◌≡◌}
use Rattle.apply_lanes.proofs.applier.Applier.fill_soon.Given as goal

-- nothing was taken yet
abbrev pub invariant-looks : goal.invariant-looks
invariant-looks g l = l.self ≡ l.fn.self
