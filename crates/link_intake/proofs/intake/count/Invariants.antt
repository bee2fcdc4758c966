use Rattle.std.proofs.Common.{◌≡◌, take}
use Rattle.link_intake.specs.Intakes.{counts_of}
use Rattle.link_intake.proofs.intake.count.Given as goal

abbrev pub invariant-loop-verdict : goal.invariant-loop-verdict
invariant-loop-verdict g l = l.counts ≡ counts_of (take l.verdict-index l.verdicts)
