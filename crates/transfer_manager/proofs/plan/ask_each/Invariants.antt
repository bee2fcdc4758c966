use Rattle.std.proofs.Common.{◌≡◌, length}
use Rattle.rights_types.specs.Places.{at_site}
use Rattle.transfer_manager.specs.Managers.{no_asks, with_asked}
use Rattle.transfer_manager.specs.Plans.{amount_asked, count_asked}
use Rattle.transfer_manager.proofs.Sites.{IsWritten}
use Rattle.transfer_manager.proofs.plan.ask_each.Given as goal

abbrev pub invariant-loop-place : goal.invariant-loop-place
invariant-loop-place l =
    let amounts = amount_asked (length l.rights) (λ i. at_site l.rights i 0) l.need in record {
      written : IsWritten no_asks (λ j p. with_asked p (amounts j)) l.initial.peers l.peers l.place;
      counted : l.count ≡ count_asked l.place amounts;
    }
