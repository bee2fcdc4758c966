use Rattle.std.proofs.Common.{◌≡◌, ◌≤◌, ◌+◌, ℕ, List, length, get_or, arith}
use Rattle.std.proofs.lemmas.List.{with_items_is}
use Rattle.rights_types.specs.declared.moves.Move.{Move}
use Rattle.rights_book.specs.Books.{BookValue, sites}
use Rattle.rights_book.specs.declared.peer.Peer.{Peer}
use Rattle.rights_book.proofs.BookLaws.{bounded, applied_book, applied_facts, with_peer, booked_by}
use Rattle.rights_book.proofs.LeaveLaws.{apply_leaves}
use Rattle.rights_book.proofs.StandLaws.{own_applied, applied_applied}
use Rattle.rights_book.proofs.book.Book.apply.Goals as goal

pub add_gifts-requires-clause-fits : goal.add_gifts-requires-clause-fits
add_gifts-requires-clause-fits g c =
    rw c.deref_mut.ensures.value
    (λ j low high. omega (arith, c.self.invariant.gifts_within j, (bounded _ c.self.invariant).applies))

pub invariant_of-self : goal.invariant_of-self
invariant_of-self g c =
    let x : BookValue = record { me = c.self.inside.me; own = c.self.inside.own; peers = c.self.inside.peers.items } in
    let gs : List Peer = c.add_gifts.new.peers in
    let it : Peer = c.index_mut-peer.result.now in
    let o : ℕ = c.args.origin in
    let ms : List Move = c.args.entry.now.moves in
    let whole : length gs ≡ c.self.inside.peers.len = omega (arith, c.add_gifts.auto.peers, c.deref_mut.ensures.len) in
    let high : o ≤ sites x = rw (← c.self.view_is) at c.requires.site in
    let other = rw (← c.self.view_is) at c.requires.other in
    let read : it ≡ get_or gs c.index.result it
    = rw (with_items_is c.self.inside.peers gs whole) at c.index_mut-peer.ensures.value in
    let b = booked_by x o c.index.result ms _ _ gs it _ _ c.index.ensures.value high c.moves-moves.ensures.value
    c.deref_mut.ensures.value c.add_gifts.auto.peers c.add_gifts.ensures
    read c.add.ensures.added c.gifts_to.ensures.value in
    rw (with_items_is c.self.inside.peers gs whole)
    (applied_book x _ o ms c.self.invariant (omega (arith, c.index.ensures.value)) high other
    c.moves-moves.ensures.valid.moves (b.kept c.add.ensures.valid) b.applies)

pub returns : goal.returns
returns g c =
    let x : BookValue = record { me = c.self.inside.me; own = c.self.inside.own; peers = c.self.inside.peers.items } in
    let gs : List Peer = c.add_gifts.new.peers in
    let it : Peer = c.index_mut-peer.result.now in
    let o : ℕ = c.args.origin in
    let ms : List Move = c.args.entry.now.moves in
    let whole : length gs ≡ c.self.inside.peers.len = omega (arith, c.add_gifts.auto.peers, c.deref_mut.ensures.len) in
    let low : 1 ≤ o = omega (arith, c.index.ensures.value) in
    let high : o ≤ sites x = rw (← c.self.view_is) at c.requires.site in
    let other = rw (← c.self.view_is) at c.requires.other in
    let read : it ≡ get_or gs c.index.result it
    = rw (with_items_is c.self.inside.peers gs whole) at c.index_mut-peer.ensures.value in
    let y : BookValue = with_peer x gs c.index.result
    (record it { log = c.add.new.self; received = it.received + c.gifts_to.result }) in
    let b = booked_by x o c.index.result ms _ _ gs it _ _ c.index.ensures.value high c.moves-moves.ensures.value
    c.deref_mut.ensures.value c.add_gifts.auto.peers c.add_gifts.ensures
    read c.add.ensures.added c.gifts_to.ensures.value in
    let facts = applied_facts x y o ms low high b.applies in
    let unclosed = rw (← c.self.view_is) at c.requires.unclosed in
    let next = rw (← c.self.view_is) at c.requires.next in
    rw (← c.self.view_is, with_items_is c.self.inside.peers gs whole) (record {
      applies = b.applies;
      leaves = apply_leaves x y o c.args.entry.now c.self.invariant other unclosed next b.applies facts;
      stands_own = λ log s. own_applied x y o ms log c.self.invariant other b.applies facts s;
      stands_applied = λ applied later s adds. applied_applied x y o c.args.entry.now applied later c.self.invariant low
          high other unclosed next b.applies facts s adds;
    })
