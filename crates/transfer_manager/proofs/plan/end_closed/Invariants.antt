use Rattle.transfer_manager.specs.Managers.{no_asks}
use Rattle.transfer_manager.specs.Plans.{of_book, without_closed}
use Rattle.transfer_manager.proofs.Sites.{IsWritten}
use Rattle.transfer_manager.proofs.plan.end_closed.Given as goal

abbrev pub invariant-loop-place : goal.invariant-loop-place
invariant-loop-place g l = IsWritten no_asks (without_closed (of_book l.book)) l.initial.peers l.peers l.place
