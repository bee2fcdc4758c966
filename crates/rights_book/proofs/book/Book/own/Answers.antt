use Rattle.std.proofs.Common.{refl, arith}
use Rattle.std.proofs.lemmas.List.{with_items_is}
use Rattle.rights_book.proofs.CheckLaws.{checked, named_within}
use Rattle.rights_book.proofs.BookLaws.{bounded, own_wrote, written_book}
use Rattle.rights_book.proofs.LeaveLaws.{own_leaves}
use Rattle.rights_book.proofs.StandLaws.{own_written}
use Rattle.rights_book.proofs.book.Book.own.Goals as goal

pub add_own-requires-clause-named : goal.add_own-requires-clause-named
add_own-requires-clause-named g c =
    let is = checked _ _ (rw (← c.self.view_is) at c.requires.checked) in
    rw c.deref_mut.ensures.value (named_within _ _ c.all_in_range.ensures is.within)

pub add_own-requires-clause-given : goal.add_own-requires-clause-given
add_own-requires-clause-given g c = rw c.deref_mut.ensures.value (bounded _ c.self.invariant).gives_to

pub add_own-requires-clause-back : goal.add_own-requires-clause-back
add_own-requires-clause-back g c =
    let left = rw (← c.self.view_is) at c.requires.back in
    rw c.deref_mut.ensures.value
    (λ j. omega (arith, left j, c.self.invariant.back_within j, (bounded _ c.self.invariant).gives_to j))

pub invariant_of-self : goal.invariant_of-self
invariant_of-self g c =
    let is = checked _ _ (rw (← c.self.view_is) at c.requires.checked) in
    let wrote = own_wrote _ _ c.args.moves.now _ c.deref_mut.ensures.value refl c.add.ensures.added c.add_own.auto.peers
    c.add_own.ensures in
    rw (with_items_is c.self.inside.peers c.add_own.new.peers
    (omega (arith, c.add_own.auto.peers, c.deref_mut.ensures.len)))
    (written_book _ _ _ c.self.invariant is c.all_in_range.ensures (rw (← c.self.view_is) at c.requires.back)
    c.add.ensures.valid wrote)

pub returns-clause-stands_own : goal.returns-clause-stands_own
returns-clause-stands_own g c =
    let is = checked _ _ (rw (← c.self.view_is) at c.requires.checked) in
    let wrote = own_wrote _ _ c.args.moves.now _ c.deref_mut.ensures.value refl c.add.ensures.added c.add_own.auto.peers
    c.add_own.ensures in
    rw (
      ← c.self.view_is,
      with_items_is c.self.inside.peers c.add_own.new.peers
          (omega (arith, c.add_own.auto.peers, c.deref_mut.ensures.len)),
    )
    (λ log s. own_written _ _ _ log is c.all_in_range.ensures (rw (← c.self.view_is) at c.requires.unclosed) wrote s)

pub returns-clause-leaves : goal.returns-clause-leaves
returns-clause-leaves g c =
    let is = checked _ _ (rw (← c.self.view_is) at c.requires.checked) in
    let wrote = own_wrote _ _ c.args.moves.now _ c.deref_mut.ensures.value refl c.add.ensures.added c.add_own.auto.peers
    c.add_own.ensures in
    rw (
      ← c.self.view_is,
      with_items_is c.self.inside.peers c.add_own.new.peers
          (omega (arith, c.add_own.auto.peers, c.deref_mut.ensures.len)),
    )
    (own_leaves _ _ _ c.self.invariant is (rw (← c.self.view_is) at c.requires.unclosed) wrote)
