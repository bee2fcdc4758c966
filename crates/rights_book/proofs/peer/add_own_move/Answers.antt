use Rattle.std.proofs.Common.{◌+◌, refl, ap, arith}
use Rattle.rights_types.proofs.Places.{at_site-index}
use Rattle.rights_book.specs.Peers.{no_peer}
use Rattle.rights_book.specs.declared.peer.Peer.{Peer}
use Rattle.rights_book.proofs.peer.add_own_move.Goals as goal

pub overflow_add-peers : goal.overflow_add-peers
overflow_add-peers c =
    let i = c.index.result in
    omega (
      arith,
      ap (λ (p : Peer). p.given) (at_site-index c.args.peers.now i (i + 1) no_peer refl),
      c.requires.given (i + 1),
      c.value.ensures.range,
    )

pub overflow_add-peers-in-Give : goal.overflow_add-peers-in-Give
overflow_add-peers-in-Give c =
    let i = c.index-in-Give.result in
    omega (
      arith,
      ap (λ (p : Peer). p.given) (at_site-index c.args.peers.now i (i + 1) no_peer refl),
      c.requires.given (i + 1),
      c.value-in-Give.ensures.range,
    )

pub overflow_add-peers-in-TakeBack : goal.overflow_add-peers-in-TakeBack
overflow_add-peers-in-TakeBack c =
    let i = c.index-in-TakeBack.result in
    omega (
      arith,
      ap (λ (p : Peer). p.back) (at_site-index c.args.peers.now i (i + 1) no_peer refl),
      c.requires.back (i + 1),
      c.value-in-TakeBack.ensures.range,
    )
