use Rattle.std.proofs.Common.{◌+◌, drop, sym, ap, ◌∙◌, subst, arith}
use Rattle.std.proofs.lemmas.List.{drop_all}
use Rattle.std.proofs.lemmas.List.Elements.{All-get_or}
use Rattle.rights_types.specs.Moves.{IsMove}
use Rattle.rights_types.specs.Places.{at_site}
use Rattle.rights_book.specs.Peers.{no_peer, with_gifts}
use Rattle.rights_book.specs.declared.peer.Peer.{Peer}
use Rattle.rights_types.proofs.Sums.{next_move}
use Rattle.rights_book.proofs.PeerLaws.{with_gifts-cons, with_gifts-nil, gifts-bound}
use Rattle.rights_book.proofs.peer.add_gifts.Goals as goal

pub add_move_gift-requires : goal.add_move_gift-requires
add_move_gift-requires c = λ j low high. omega (arith, c.loop-m.invariant.few j low (omega arith), c.requires.few)

pub loop-m-preserved : goal.loop-m-preserved
loop-m-preserved c =
    let m = c.m-item.result in
    let o = c.args.origin in
    let rest = drop (c.loop-m.m-index + 1) c.args.moves.now in
    let next = next_move c.args.moves.now c.loop-m.m-index m c.loop-m-test.true c.m-item.is in
    let range : IsMove m = subst IsMove (sym c.m-item.is)
    (All-get_or IsMove c.args.moves.now c.loop-m.m-index m c.loop-m-test.true c.requires.ranges) in
    record {
      each = λ j low high.
          (let p : Peer = at_site c.loop-m.peers j no_peer in
          ap (λ (q : Peer). with_gifts q o j rest) (c.add_move_gift.ensures j low (omega arith))
          ∙ with_gifts-cons p o j m rest
          ∙ ap (with_gifts p o j) (sym next) ∙ c.loop-m.invariant.each j low high);
      few = λ j low high.
          (let p : Peer = at_site c.loop-m.peers j no_peer in
          omega (
            arith,
            ap (λ (q : Peer). q.gifts) (c.add_move_gift.ensures j low (omega arith)),
            gifts-bound p o j m range,
            c.loop-m.invariant.few j low high,
          ));
    }

pub returns : goal.returns
returns c = λ j low high.
    let p : Peer = at_site c.loop-m.peers j no_peer in
    sym (with_gifts-nil p c.args.origin j)
    ∙ ap (with_gifts p c.args.origin j) (sym (drop_all c.loop-m.m-index c.args.moves.now c.loop-m-test.false))
    ∙ c.loop-m.invariant.each j low high
