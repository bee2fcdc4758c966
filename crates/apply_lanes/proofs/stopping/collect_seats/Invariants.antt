use Rattle.std.proofs.Common.{◌≡◌, ◌+◌, ◌≤◌, ◌++◌, length}
use Rattle.std.specs.Vec.Iter.{into_iter_items, into_iter_len}
use Rattle.apply_lanes.specs.Stops.{all_issued, all_spent, all_served}
use Rattle.apply_lanes.proofs.stopping.collect_seats.Given as goal

abbrev pub invariant-loop-seat : goal.invariant-loop-seat
invariant-loop-seat g l =
    (l.yielded ++ into_iter_items l.seat-iterator ≡ into_iter_items l.initial.seat-iterator)
    × (into_iter_len l.seat-iterator ≡ length (into_iter_items l.seat-iterator))
    × (l.told_issued ≡ all_issued l.yielded) × (l.told_spent ≡ all_spent l.yielded)
    × (l.told_served ≡ all_served l.yielded)
    × (l.issued ≡ record l.initial.issued {
      left = l.initial.issued.left + length l.yielded;
      returned = all_issued l.yielded;
    })
    × (l.spent ≡ record l.initial.spent {
      left = l.initial.spent.left + length l.yielded;
      returned = all_spent l.yielded + all_served l.yielded;
    })
    × (l.issued.returned ≤ l.issued.sum) × (l.spent.returned ≤ l.spent.sum)
