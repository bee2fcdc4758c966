use Rattle.std.proofs.Common.{◌≡◌, false}
use Rattle.bench.proofs.desk.threads.feed.Given as goal

abbrev pub invariant-loop-line : goal.invariant-loop-line
invariant-loop-line g l = l.intake.finished ≡ false
