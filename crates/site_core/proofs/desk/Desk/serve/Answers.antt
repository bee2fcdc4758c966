use Rattle.std.proofs.Common.{◌≡◌, refl, ap, arith, ◌∙◌}
use Rattle.rights_book.specs.Books.{held_by}
use Rattle.site_core.proofs.DeskLaws.{wrote, spend_unrefused}
use Rattle.site_core.proofs.desk.Desk.serve.Goals as goal

pub write-requires-clause-covered : goal.write-requires-clause-covered
write-requires-clause-covered g c =
    let held : c.held.result ≡ held_by c.self.inside.ledger.book = c.held.ensures.value
    ∙ ap held_by c.book.ensures.value in
    spend_unrefused c.self.inside.ledger.book _ (omega (arith, held, c.value.ensures.value, c.if-held-value.false))

pub invariant_of-self-2 : goal.invariant_of-self-2
invariant_of-self-2 g c = wrote _ _ _ c.self.invariant c.in_ok-number.ensures.ok refl refl
