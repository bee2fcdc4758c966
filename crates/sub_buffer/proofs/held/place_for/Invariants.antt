use Rattle.std.proofs.Common.{◌-◌}
use Rattle.sub_buffer.proofs.Windows.{IsWindow}
use Rattle.sub_buffer.proofs.held.place_for.Given as goal

abbrev pub invariant-loop-low : goal.invariant-loop-low
invariant-loop-low g l = IsWindow l.prev l.held.items l.low l.high

abbrev pub decreases-loop-low : goal.decreases-loop-low
decreases-loop-low g l = l.high - l.low
