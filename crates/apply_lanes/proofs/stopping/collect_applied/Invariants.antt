use Rattle.std.proofs.Common.{◌≡◌, ◌+◌, ◌++◌, length}
use Rattle.std.specs.Vec.Iter.{into_iter_items, into_iter_len}
use Rattle.apply_lanes.specs.Stops.{all_numbers, all_received}
use Rattle.apply_lanes.proofs.stopping.collect_applied.Given as goal

abbrev pub invariant-loop-one : goal.invariant-loop-one
invariant-loop-one g l =
    (l.yielded ++ into_iter_items l.one-iterator ≡ into_iter_items l.initial.one-iterator)
    × (into_iter_len l.one-iterator ≡ length (into_iter_items l.one-iterator))
    × (l.number ≡ record l.initial.number {
      left = l.initial.number.left + length l.yielded;
      returned = all_numbers l.yielded;
    })
    × (l.received ≡ record l.initial.received {
      left = l.initial.received.left + length l.yielded;
      returned = all_received l.yielded;
    })
