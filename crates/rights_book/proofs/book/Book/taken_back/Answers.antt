use Rattle.std.proofs.Common.{arith}
use Rattle.rights_book.proofs.BookLaws.{bounded, back_given}
use Rattle.rights_book.proofs.book.Book.taken_back.Goals as goal

pub overflow_cast-result : goal.overflow_cast-result
overflow_cast-result g c = omega (arith, (bounded _ c.self.invariant).takes_back)

pub returns-clause-sum : goal.returns-clause-sum
returns-clause-sum g c = rw (← c.self.view_is) c.self.invariant.back_is

pub returns-clause-range : goal.returns-clause-range
returns-clause-range g c = rw (← c.self.view_is) (back_given _ c.self.invariant)
