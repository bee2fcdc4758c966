use Rattle.std.proofs.Common.{ℕ, ◌+◌, arith, length}
use Rattle.std.specs.Prelude.{if◌then◌else◌}
use Rattle.rights_types.specs.Places.{at_site}
use Rattle.rights_types.proofs.SiteSums.{sum_fewer}
use Rattle.transfer_manager.specs.Plans.{is_before}
use Rattle.transfer_manager.proofs.plan.need_after.Goals as goal

-- what the sites before this one have is enough
pub returns-then-left-eq0 : goal.returns-then-left-eq0
returns-then-left-eq0 c =
    let rights : ℕ → ℕ = λ k. at_site c.args.rights.now k 0 in
    let before : ℕ → ℕ = λ i. if is_before rights i (c.args.place + 1) then rights i else 0 in
    omega (
      arith,
      sum_fewer (length c.args.rights.now) c.loop-other.other before (omega arith),
      c.loop-other.invariant,
      c.if-left-eq0.true,
    )
