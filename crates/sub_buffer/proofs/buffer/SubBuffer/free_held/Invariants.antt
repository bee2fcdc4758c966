use Rattle.std.proofs.Common.{◌≡◌, ◌+◌, ◌≤◌, ◌++◌, List, length, vec_capacity}
use Rattle.rights_types.specs.Entries.{EntryValue}
use Rattle.sub_buffer.specs.Arrivals.{all_ready}
use Rattle.sub_buffer.proofs.Arriving.{Freeing}
use Rattle.sub_buffer.proofs.buffer.SubBuffer.free_held.Given as goal

abbrev pub invariant-loop-held : goal.invariant-loop-held
invariant-loop-held g l = record {
  freed : (freed : List EntryValue) × (l.verdicts.items ≡ l.initial.verdicts.items ++ all_ready freed)
      × Freeing l.initial.self freed l.self;
  room : length l.verdicts.items + length l.self.held ≤ vec_capacity l.verdicts;
  capacity : vec_capacity l.verdicts ≡ vec_capacity l.initial.verdicts;
}

abbrev pub decreases-loop-held : goal.decreases-loop-held
decreases-loop-held g l = length l.self.held
