use Rattle.std.proofs.Common.{◌≡◌, ◌+◌, ◌-◌}
use Rattle.std.specs.Prelude.{if◌then◌else◌}
use Rattle.rights_types.specs.Places.{at_site}
use Rattle.rights_types.specs.Rights.{sum_sites}
use Rattle.transfer_manager.specs.Plans.{is_before}
use Rattle.transfer_manager.proofs.plan.need_after.Given as goal

abbrev pub invariant-loop-other : goal.invariant-loop-other
invariant-loop-other l =
    l.left ≡ l.need - sum_sites l.other
    (λ i. if is_before (λ k. at_site l.rights k 0) i (l.place + 1) then at_site l.rights i 0 else 0)
