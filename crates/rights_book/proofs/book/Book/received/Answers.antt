use Rattle.std.proofs.Common.{ap, ◌∙◌, arith}
use Rattle.rights_book.specs.declared.peer.Peer.{Peer}
use Rattle.rights_book.proofs.BookLaws.{bounded}
use Rattle.rights_book.proofs.StandLaws.{received_stands}
use Rattle.rights_book.proofs.book.Book.received.Goals as goal

pub returns-clause-range : goal.returns-clause-range
returns-clause-range g c =
    let found = rw (← c.self.view_is) at c.peer.ensures.value in
    omega (arith, ap (λ (p : Peer). p.gifts) found, (bounded _ c.self.invariant).receives)

pub returns-clause-stands : goal.returns-clause-stands
returns-clause-stands g c =
    let found = rw (← c.self.view_is) at c.peer.ensures.value in
    rw (← c.self.view_is) (λ applied s. ap (λ (p : Peer). p.gifts) found ∙ received_stands _ applied c.self.invariant s)
