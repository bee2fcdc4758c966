use Rattle.std.proofs.Common.{arith}
use Rattle.link_intake.proofs.IntakeLaws.{counts_step, few_counted}
use Rattle.link_intake.proofs.intake.count.Goals as goal

pub count_one-requires : goal.count_one-requires
count_one-requires g c = omega (arith, few_counted _ _ _ c.loop-verdict-test.true c.loop-verdict.invariant)

pub loop-verdict-preserved : goal.loop-verdict-preserved
loop-verdict-preserved g c
    = counts_step _ _ _ _ _ c.loop-verdict-test.true c.verdict-item.is c.loop-verdict.invariant c.count_one.ensures
