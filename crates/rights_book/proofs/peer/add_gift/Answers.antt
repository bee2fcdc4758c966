use Rattle.std.proofs.Common.{◌+◌, refl, ap, arith}
use Rattle.rights_types.proofs.Places.{at_site-index}
use Rattle.rights_book.specs.Peers.{no_peer}
use Rattle.rights_book.specs.declared.peer.Peer.{Peer}
use Rattle.rights_book.proofs.peer.add_gift.Goals as goal

pub overflow_add-peers : goal.overflow_add-peers
overflow_add-peers c =
    let i = c.index-then-index-peers.result in
    omega (
      arith,
      ap (λ (p : Peer). p.gifts) (at_site-index c.args.peers.now i (i + 1) no_peer refl),
      c.requires (i + 1) (omega arith) (omega arith),
      c.value.ensures.range,
    )
