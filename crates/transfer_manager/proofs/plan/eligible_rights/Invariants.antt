use Rattle.rights_types.specs.Places.{at_site}
use Rattle.transfer_manager.specs.SiteSets.{has_site}
use Rattle.std.proofs.Common.{◌≡◌, ◌≤◌, ℕ, length, replicate}
use Rattle.transfer_manager.specs.Managers.{no_asks}
use Rattle.transfer_manager.specs.Plans.{of_book, beside, eligible_rights}
use Rattle.transfer_manager.proofs.Sites.{IsWritten}
use Rattle.transfer_manager.proofs.plan.eligible_rights.Given as goal

abbrev pub invariant-loop-place : goal.invariant-loop-place
invariant-loop-place g l = record {
  whole : length l.rights ≡ 16;
  written : IsWritten 0 (λ j old. eligible_rights l.me (beside (has_site l.silent) (of_book l.book)) j (at_site l.peers j no_asks))
      (replicate 16 0) l.rights l.place;
  bounded : (j : ℕ) → at_site l.rights j 0 ≤ 1000000017000000000000000000;
}
