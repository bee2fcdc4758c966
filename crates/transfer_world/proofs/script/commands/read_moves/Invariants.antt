use Rattle.std.proofs.Common.{◌≡◌, length}
use Rattle.line_streams.specs.Words.{words_left}
use Rattle.transfer_world.specs.Commands.{moves_in}
use Rattle.transfer_world.proofs.CommandLaws.{after_moves}
use Rattle.transfer_world.proofs.script.commands.read_moves.Given as goal

abbrev pub invariant-loop-left : goal.invariant-loop-left
invariant-loop-left g l = moves_in (words_left l.fn.words) ≡ after_moves l.moves.items (moves_in (words_left l.left))

abbrev pub decreases-loop-left : goal.decreases-loop-left
decreases-loop-left g l = length (words_left l.left)
