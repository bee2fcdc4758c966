use Rattle.std.proofs.Common.{ap, arith}
use Rattle.rights_book.specs.declared.peer.Peer.{Peer}
use Rattle.rights_book.proofs.BookLaws.{bounded}
use Rattle.rights_book.proofs.StandLaws.{sums_stand}
use Rattle.rights_book.proofs.book.Book.sums.Goals as goal

pub overflow_add-result : goal.overflow_add-result
overflow_add-result g c =
    let b = c.args.self.now in
    let j = c.args.site in
    let is = c.peer-peer.ensures.valid in
    let bounds = bounded b is in
    omega (
      arith,
      ap (λ (p : Peer). p.gifts) c.peer-peer.ensures.value,
      ap (λ (p : Peer). p.given) c.peer-peer.ensures.value,
      is.gifts_within j,
      bounds.applies,
      bounds.gives_to j,
    )

pub returns-clause-stands : goal.returns-clause-stands
returns-clause-stands g c =
    let b = c.args.self.now in
    let j = c.args.site in
    rw (c.account-log.ensures.value, c.peer-peer.ensures.value)
    (λ log applied s high. sums_stand b log applied j c.peer-peer.ensures.valid s c.peer-peer.ensures.range high)
