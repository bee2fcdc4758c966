use Rattle.sub_buffer.specs.Buffers.{IsSettled}
use Rattle.bench.proofs.buffer.arrival_time.Given as goal

abbrev pub invariant-loop-number : goal.invariant-loop-number
invariant-loop-number g l = IsSettled l.buffer
