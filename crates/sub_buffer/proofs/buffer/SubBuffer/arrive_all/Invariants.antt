use Rattle.std.proofs.Common.{◌≡◌, ◌≤◌, List, length, vec_capacity}
use Rattle.std.specs.List.{All}
use Rattle.rights_types.specs.Entries.{EntryValue}
use Rattle.sub_buffer.specs.Buffers.{BufferValue, IsSettled}
use Rattle.sub_buffer.specs.Arrivals.{ArriveAll}
use Rattle.sub_buffer.specs.declared.verdict.Verdict.{Verdict}
use Rattle.sub_buffer.proofs.Arriving.{IsRoomFor}
use Rattle.sub_buffer.proofs.buffer.SubBuffer.arrive_all.Given as goal

abbrev pub invariant-loop-entry : goal.invariant-loop-entry
invariant-loop-entry g l = record {
  -- what arrives from here arrives from the start
  goes_on : (new : BufferValue) (after : List (Verdict _))
      → ArriveAll l.self l.verdicts.items l.entry-iterator.rest.items new after
      → ArriveAll l.fn.self l.fn.verdicts.items l.fn.entries.items new after;
  origin : All (λ (e : EntryValue). e.origin ≡ l.self.origin) l.entry-iterator.rest.items;
  settled : IsSettled l.self;
  few : length l.self.held ≤ 64;
  room : IsRoomFor (length l.entry-iterator.rest.items) (length l.self.held) (length l.verdicts.items)
      (vec_capacity l.verdicts);
  capacity : vec_capacity l.verdicts ≡ vec_capacity l.fn.verdicts;
}
