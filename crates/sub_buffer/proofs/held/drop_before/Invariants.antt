use Rattle.std.proofs.Common.{◌≡◌}
use Rattle.std.specs.VecDeque.{deque_len, deque_capacity}
use Rattle.sub_buffer.specs.Buffers.{InOrder, onward}
use Rattle.sub_buffer.proofs.held.drop_before.Given as goal

abbrev pub invariant-loop-first : goal.invariant-loop-first
invariant-loop-first g l = record {
  items : onward l.number l.held.items ≡ onward l.number l.initial.held.items;
  order : InOrder l.held.items;
  capacity : deque_capacity l.held ≡ deque_capacity l.initial.held;
}

abbrev pub decreases-loop-first : goal.decreases-loop-first
decreases-loop-first g l = deque_len l.held
