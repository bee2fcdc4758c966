use Rattle.std.proofs.Common.{ℤ, pos, neg_ℤ, ◌≤ℤ◌, sym, ◌∙◌, subst, arith}
use Rattle.rights_book.proofs.Signed.{small_difference, difference_range}
use Rattle.rights_book.proofs.BookLaws.{gained, parted, known_bounds}
use Rattle.rights_book.proofs.StandLaws.{known_stands}
use Rattle.rights_book.proofs.book.Book.known.Goals as goal

pub returns-clause-stands : goal.returns-clause-stands
returns-clause-stands g c =
    let b = c.args.self.now in
    let j = c.args.site in
    let is = c.peer-peer.ensures.valid in
    let bounds = known_bounds b is j in
    let small = small_difference (gained b j) (parted b j) (omega (arith, bounds.0)) (omega (arith, bounds.1)) in
    rw (c.account-log.ensures.value, c.peer-peer.ensures.value) (λ log applied s high.
    (small ∙ known_stands b log applied j is s c.peer-peer.ensures.range high))

pub returns-clause-range : goal.returns-clause-range
returns-clause-range g c =
    let b = c.args.self.now in
    let j = c.args.site in
    let bounds = known_bounds b c.peer-peer.ensures.valid j in
    let small = small_difference (gained b j) (parted b j) (omega (arith, bounds.0)) (omega (arith, bounds.1)) in
    rw (c.account-log.ensures.value, c.peer-peer.ensures.value)
    (subst (λ (z : ℤ). (neg_ℤ (pos 2000000000000000000) ≤ℤ z) × (z ≤ℤ pos 1000000017000000000000000000)) (sym small)
    (difference_range _ _ _ _ bounds.0 bounds.1))
