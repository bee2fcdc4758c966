use Rattle.sub_buffer.specs.Buffers.{IsSettled}
use Rattle.bench.proofs.buffer.arrive_all.Given as goal

abbrev pub invariant-loop-entry : goal.invariant-loop-entry
invariant-loop-entry l = IsSettled l.buffer
