use Rattle.std.proofs.Common.{◌≡◌, false}
use Rattle.shared_desk_tests.proofs.tests.many.feed.Given as goal

abbrev pub invariant-loop-number : goal.invariant-loop-number
invariant-loop-number g l = l.intake.finished ≡ false
