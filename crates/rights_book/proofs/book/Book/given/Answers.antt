use Rattle.rights_book.proofs.book.Book.given.Goals as goal

pub returns-clause-sum : goal.returns-clause-sum
returns-clause-sum g c = rw (← c.self.view_is) c.self.invariant.given_is
