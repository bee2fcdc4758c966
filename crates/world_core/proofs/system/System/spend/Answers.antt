use Rattle.std.proofs.Common.{◌≡◌, true}
use Rattle.world_core.proofs.EventPlaces.{site_known, lent}
use Rattle.world_core.proofs.DeskCalls.{refused, done}
use Rattle.site_core.specs.Faults.{can_spend, spend_fault}
use Rattle.world_core.specs.DeskEvents.{Spends}
use Rattle.world_core.specs.declared.reply.Reply.TheVariants.{Spent, Queued}
use Rattle.world_core.proofs.system.System.spend.Goals as goal
use Rattle.world_core.proofs.system.System.spend.Goals.{in-Spent, in-Queued}

pub returns-in_err-number : goal.returns-in_err-number
returns-in_err-number g c =
    let at = lent _ c.args.self.now _ _ _ c.self.view_is c.index.ensures.value
    (site_known c.args.self.now _ c.requires) c.index_mut.ensures.value in
    refused {A = g.row.A.Denot} (λ d. spend_fault d c.args.amount) (λ d. can_spend d c.args.amount ≡ true)
    (λ d. Spends d c.args.amount c.args.deadline) _ _ _ _ _ _ _ _
    at c.in_err-number.ensures.refused c.in_err-number.ensures.memory c.in_err-number.ensures.err
    c.from_residual.ensures.1

pub returns : goal.returns
returns g c =
    let at = lent _ c.args.self.now _ _ _ c.self.view_is c.index.ensures.value
    (site_known c.args.self.now _ c.requires) c.index_mut.ensures.value in
    elim c.match-branch-2.branch [
      | in-Spent b ↦ rw b.result-is (done {A = g.row.A.Denot} (λ d. spend_fault d c.args.amount)
          (λ d. can_spend d c.args.amount ≡ true) (λ d. Spends d c.args.amount c.args.deadline) _ _ _ _ _ _
          (Spent b.in-Spent.number)
          at c.in_ok-number.ensures.refused (rw b.in-Spent.is at c.in_ok-number.ensures.ok))
      | in-Queued b ↦ rw b.result-is (done {A = g.row.A.Denot} (λ d. spend_fault d c.args.amount)
          (λ d. can_spend d c.args.amount ≡ true) (λ d. Spends d c.args.amount c.args.deadline) _ _ _ _ _ _
          (Queued b.in-Queued.ticket)
          at c.in_ok-number.ensures.refused (rw b.in-Queued.is at c.in_ok-number.ensures.ok))
    ]
