use Rattle.thread_parts.specs.Items.{IsOpen}
use Rattle.shared_desk_tests.proofs.tests.drops.take_some.Given as goal

abbrev pub invariant-loop-number : goal.invariant-loop-number
invariant-loop-number g l = IsOpen l.outlet.taken
