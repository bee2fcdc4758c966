use Rattle.std.proofs.Common.{◌≡◌}
use Rattle.thread_parts.specs.Items.{IsOpen}
use Rattle.shared_desk_tests.proofs.tests.lanes.take_all.Given as goal

abbrev pub invariant-loop : goal.invariant-loop
invariant-loop g l = IsOpen l.outlet.taken × (l.outlet.lane ≡ l.fn.outlet.lane)
