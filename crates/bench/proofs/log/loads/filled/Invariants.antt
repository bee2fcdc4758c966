use Rattle.std.proofs.Common.{◌≡◌}
use Rattle.bench.proofs.log.loads.filled.Given as goal

abbrev pub invariant-loop : goal.invariant-loop
invariant-loop l = l.log.site ≡ 1
