use Rattle.std.proofs.Common.{◌≡◌, refl, ap, arith, ◌∙◌}
use Rattle.rights_book.specs.Books.{held_by}
use Rattle.site_core.proofs.DeskLaws.{wrote, spend_unrefused}
use Rattle.site_core.proofs.desk.Desk.spend.Goals as goal

pub write-requires-clause-covered : goal.write-requires-clause-covered
write-requires-clause-covered g c =
    let held : c.held.result ≡ held_by c.self.inside.ledger.book = c.held.ensures.value
    ∙ ap held_by c.book.ensures.value in
    spend_unrefused c.self.inside.ledger.book _ (omega (arith, held, c.in-Ok.ensures.ok))

pub invariant_of-self-then-held-amount : goal.invariant_of-self-then-held-amount
invariant_of-self-then-held-amount g c = wrote _ _ _ c.self.invariant c.in_ok-number.ensures.ok refl refl
