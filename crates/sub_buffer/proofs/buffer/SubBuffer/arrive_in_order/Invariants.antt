use Rattle.std.proofs.Common.{◌≡◌, ◌+◌, ◌≤◌, ◌++◌, List, length, vec_capacity}
use Rattle.sub_buffer.specs.Buffers.{BufferValue, IsSettled}
use Rattle.sub_buffer.specs.Arrivals.{all_ready, ArriveAll, IsContinuedBy}
use Rattle.sub_buffer.specs.declared.verdict.Verdict.{Verdict}
use Rattle.sub_buffer.proofs.buffer.SubBuffer.arrive_in_order.Given as goal

abbrev pub invariant-loop-entry : goal.invariant-loop-entry
invariant-loop-entry g l = record {
  -- what arrives from here arrives from the start
  goes_on : (new : BufferValue) (after : List (Verdict _))
      → ArriveAll l.self l.verdicts.items l.entry-iterator.rest.items new after
      → ArriveAll l.fn.self l.fn.verdicts.items l.fn.entries.items new after;
  next : IsContinuedBy l.self l.entry-iterator.rest.items;
  settled : IsSettled l.self;
  ready : l.verdicts.items ++ all_ready l.entry-iterator.rest.items
      ≡ l.fn.verdicts.items ++ all_ready l.fn.entries.items;
  room : length l.verdicts.items + length l.entry-iterator.rest.items ≤ vec_capacity l.verdicts;
  capacity : vec_capacity l.verdicts ≡ vec_capacity l.fn.verdicts;
}
