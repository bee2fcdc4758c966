use Rattle.std.proofs.Common.{length}
use Rattle.entry_codec.specs.Parts.{left}
use Rattle.entry_codec.proofs.FrontierLoop.{IsReadUpTo}
use Rattle.entry_codec.proofs.moves.frontier_in.Given as goal

abbrev pub invariant-loop-rest : goal.invariant-loop-rest
invariant-loop-rest l = IsReadUpTo l.numbers l.count (left 58 l.rest) (left 58 l.values)

abbrev pub decreases-loop-rest : goal.decreases-loop-rest
decreases-loop-rest l = length (left 58 l.rest)
