use Rattle.std.proofs.Common.{◌≡◌}
use Rattle.rights_types.specs.Places.{at_site}
use Rattle.transfer_manager.specs.SiteSets.{has_site}
use Rattle.rights_types.specs.Rights.{sum_sites}
use Rattle.transfer_manager.specs.Managers.{no_asks}
use Rattle.transfer_manager.specs.Plans.{of_book, beside, expected}
use Rattle.transfer_manager.proofs.plan.need.Given as goal

abbrev pub invariant-loop-place : goal.invariant-loop-place
invariant-loop-place g l = l.expected
    ≡ sum_sites l.place (λ j. expected (beside (has_site l.silent) (of_book l.book)) j (at_site l.peers j no_asks))
