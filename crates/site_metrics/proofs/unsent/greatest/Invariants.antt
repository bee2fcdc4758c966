use Rattle.std.proofs.Common.{◌≡◌, take}
use Rattle.site_metrics.specs.Unsent.{most_sent}
use Rattle.site_metrics.proofs.unsent.greatest.Given as goal

abbrev pub invariant-loop-number : goal.invariant-loop-number
invariant-loop-number l = l.most ≡ most_sent (take l.number-index l.sent)
