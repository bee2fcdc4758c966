use Rattle.std.proofs.Common.{◌≡◌, ℕ, ◌-◌, ◌≤◌, refl, sym, subst, arith}
use Rattle.rights_book.specs.Books.{held_by}
use Rattle.request_queue.specs.Queues.{total_of}
use Rattle.site_core.specs.Desks.{DeskValue}
use Rattle.site_core.proofs.DeskLaws.{wrote, spend_unrefused}
use Rattle.site_core.proofs.desk.Desk.take.Goals as goal

-- what is within the difference is within the whole
within : (n spare held queued : ℕ) → spare ≡ held - queued → n ≤ spare → n ≤ held
within n spare held queued is le = omega (arith, is, le)

pub write-requires-clause-covered : goal.write-requires-clause-covered
write-requires-clause-covered g c =
    let spare : c.spare.result ≡ held_by c.self.inside.ledger.book - total_of c.self.inside.queue.waiting =
    subst (λ (d : DeskValue). c.spare.result ≡ held_by d.ledger.book - total_of d.queue.waiting) (sym c.self.view_is)
    c.spare.ensures in
    spend_unrefused c.self.inside.ledger.book c.in-Ok.rights
    (within c.in-Ok.rights c.spare.result (held_by c.self.inside.ledger.book)
    (total_of c.self.inside.queue.waiting) spare (omega (arith, c.if-spare-amount.false, c.in-Ok.ensures.ok)))

pub invariant_of-self-2 : goal.invariant_of-self-2
invariant_of-self-2 g c = wrote _ _ _ c.self.invariant c.in_ok-write.ensures.ok refl refl
