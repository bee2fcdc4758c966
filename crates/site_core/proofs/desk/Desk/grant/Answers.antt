use Rattle.std.proofs.Common.{◌≡◌, ◌≢◌, ◌≤◌, [], ◌∷◌, None, ℕ, sym, subst, ◌∙◌}
use Rattle.rights_types.specs.declared.moves.Move.TheVariants.{Grant}
use Rattle.rights_book.specs.Books.{sites}
use Rattle.rights_book.specs.Checks.{check_fault}
use Rattle.transfer_manager.specs.declared.answer.AskAnswer.TheVariants.{Grant as Granted}
use Rattle.site_core.specs.Desks.{DeskValue}
use Rattle.site_core.specs.Calls.{available, answer_of}
use Rattle.site_core.proofs.AskLaws.{can_grant, grant_unrefused, wrote_grant}
use Rattle.site_core.proofs.desk.Desk.grant.Goals as goal

pub write-requires-clause-covered : goal.write-requires-clause-covered
write-requires-clause-covered g c =
    let old : DeskValue = record {
      ledger = c.self.inside.ledger;
      queue = c.self.inside.queue;
      manager = c.self.inside.manager;
      time = c.self.inside.time;
    } in
    let j : ℕ = c.args.ask.now.asker in
    let n : ℕ = c.args.amount in
    let within : n ≤ available old j
    = subst (λ (d : DeskValue). n ≤ available d j) (sym c.self.view_is) c.requires.within.2 in
    let high : j ≤ sites old.ledger.book
    = subst (λ (d : DeskValue). j ≤ sites d.ledger.book) (sym c.self.view_is) c.requires.site in
    let mine : c.args.ask.now.asked ≡ old.ledger.book.me
    = subst (λ (d : DeskValue). c.args.ask.now.asked ≡ d.ledger.book.me) (sym c.self.view_is) c.requires.mine in
    let other : j ≢ old.ledger.book.me = λ e. c.asker.ensures.valid.differ (mine ∙ sym e) in
    let can = can_grant old j n c.requires.within.0 within in
    subst (λ k. check_fault old.ledger.book (Grant k n c.ask.result ∷ []) ≡ None) (sym c.asker.ensures.value)
    (grant_unrefused old.ledger.book j n c.ask.result high other can.open_peer can.held)

pub invariant_of-self-2 : goal.invariant_of-self-2
invariant_of-self-2 g c =
    let now = subst (λ (d : DeskValue). answer_of d c.args.ask.now ≡ Granted c.args.amount) (sym c.self.view_is)
    c.requires.answer in
    let wrote = rw (c.ask.ensures.value, c.asker.ensures.value) at c.in_ok-number.ensures.ok in
    wrote_grant _ _ c.args.ask.now c.args.amount c.self.invariant now wrote c.note_answer.ensures.same
    c.note_answer.ensures.answered c.note_answer.ensures.once
