use Rattle.std.proofs.Common.{ap, arith}
use Rattle.rights_book.specs.declared.peer.Peer.{Peer}
use Rattle.rights_book.proofs.BookLaws.{bounded}
use Rattle.rights_book.proofs.book.Book.given_to.Goals as goal

pub returns-clause-range : goal.returns-clause-range
returns-clause-range g c =
    omega (
      arith,
      ap (λ (p : Peer). p.given) c.peer.ensures.value,
      (bounded c.args.self.now c.peer.ensures.valid).gives_to c.args.site,
    )
