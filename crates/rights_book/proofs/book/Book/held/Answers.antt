use Rattle.std.proofs.Common.{◌≡◌, pos, sym, ap, ◌∙◌, subst, arith}
use Rattle.rights_book.specs.Books.{BookValue, received_by, held_by}
use Rattle.rights_book.proofs.BookLaws.{bounded}
use Rattle.rights_book.proofs.StandLaws.{held_stands, held_known_stands, never_short_stands}
use Rattle.rights_book.proofs.book.Book.held.Goals as goal

pub overflow_cast-result : goal.overflow_cast-result
overflow_cast-result g c =
    let x : BookValue = record { me = c.self.inside.me; own = c.self.inside.own; peers = c.self.inside.peers.items } in
    omega (arith, (bounded x c.self.invariant).takes_back)

pub overflow_add-result-2 : goal.overflow_add-result-2
overflow_add-result-2 g c =
    let x : BookValue = record { me = c.self.inside.me; own = c.self.inside.own; peers = c.self.inside.peers.items } in
    let bounds = bounded x c.self.invariant in
    omega (arith, bounds.issues, bounds.takes_back, c.received.ensures.range)

pub returns-clause-range : goal.returns-clause-range
returns-clause-range g c =
    let x : BookValue = record { me = c.self.inside.me; own = c.self.inside.own; peers = c.self.inside.peers.items } in
    let bounds = bounded x c.self.invariant in
    omega (arith, bounds.issues, bounds.takes_back, c.received.ensures.range)

pub returns-clause-stands : goal.returns-clause-stands
returns-clause-stands g c =
    let x : BookValue = record { me = c.self.inside.me; own = c.self.inside.own; peers = c.self.inside.peers.items } in
    let received : c.received.result ≡ received_by x
    = subst (λ (b : BookValue). c.received.result ≡ received_by b) (sym c.self.view_is) c.received.ensures.value in
    rw (← c.self.view_is) (λ log applied s. omega (arith, received, held_stands x log applied c.self.invariant s))

pub returns-clause-never_short : goal.returns-clause-never_short
returns-clause-never_short g c =
    let x : BookValue = record { me = c.self.inside.me; own = c.self.inside.own; peers = c.self.inside.peers.items } in
    rw (← c.self.view_is) (λ log applied s. never_short_stands x log applied c.self.invariant s)

pub returns-clause-stands_known : goal.returns-clause-stands_known
returns-clause-stands_known g c =
    let x : BookValue = record { me = c.self.inside.me; own = c.self.inside.own; peers = c.self.inside.peers.items } in
    let received : c.received.result ≡ received_by x
    = subst (λ (b : BookValue). c.received.result ≡ received_by b) (sym c.self.view_is) c.received.ensures.value in
    let value : _ ≡ held_by x = omega (arith, received) in
    rw (← c.self.view_is) (λ log applied s. ap pos value ∙ held_known_stands x log applied c.self.invariant s)
