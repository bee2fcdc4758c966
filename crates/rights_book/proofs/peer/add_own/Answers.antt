use Rattle.std.proofs.Common.{◌+◌, drop, sym, ap, ◌∙◌, arith}
use Rattle.std.proofs.lemmas.List.{drop_all}
use Rattle.rights_types.specs.Places.{at_site}
use Rattle.rights_types.specs.Rights.{back}
use Rattle.rights_types.proofs.Sums.{to-bound, next_move, back-cons}
use Rattle.rights_book.specs.Peers.{no_peer, with_own}
use Rattle.rights_book.specs.declared.peer.Peer.{Peer}
use Rattle.rights_book.proofs.PeerLaws.{with_own-cons, with_own-nil}
use Rattle.rights_book.proofs.peer.add_own.Goals as goal

pub add_own_move-requires-clause-given : goal.add_own_move-requires-clause-given
add_own_move-requires-clause-given c = λ j.
    omega (
      arith,
      ap (λ (p : Peer). p.given) (c.loop-m.invariant j),
      c.requires.given j,
      to-bound j c.args.moves.now c.requires.ranges,
      c.requires.few,
    )

pub add_own_move-requires-clause-back : goal.add_own_move-requires-clause-back
add_own_move-requires-clause-back c = λ j.
    let m = c.m-item.result in
    let rest = drop (c.loop-m.m-index + 1) c.args.moves.now in
    let next = next_move c.args.moves.now c.loop-m.m-index m c.loop-m-test.true c.m-item.is in
    omega (
      arith,
      ap (λ (p : Peer). p.back) (c.loop-m.invariant j),
      ap (back j) next,
      back-cons j m rest,
      c.requires.back j,
    )

pub loop-m-preserved : goal.loop-m-preserved
loop-m-preserved c = λ j.
    let m = c.m-item.result in
    let p : Peer = at_site c.loop-m.peers j no_peer in
    let rest = drop (c.loop-m.m-index + 1) c.args.moves.now in
    let next = next_move c.args.moves.now c.loop-m.m-index m c.loop-m-test.true c.m-item.is in
    ap (λ (q : Peer). with_own q j rest) (c.add_own_move.ensures j) ∙ with_own-cons p j m rest
    ∙ ap (with_own p j) (sym next) ∙ c.loop-m.invariant j

pub returns : goal.returns
returns c = λ j.
    let p : Peer = at_site c.loop-m.peers j no_peer in
    sym (with_own-nil p j) ∙ ap (with_own p j) (sym (drop_all c.loop-m.m-index c.args.moves.now c.loop-m-test.false))
    ∙ c.loop-m.invariant j
