use Rattle.thread_parts.specs.Items.{IsOpen}
use Rattle.bench.proofs.lane.take_all.Given as goal

abbrev pub invariant-loop : goal.invariant-loop
invariant-loop g l = IsOpen l.outlet.taken
