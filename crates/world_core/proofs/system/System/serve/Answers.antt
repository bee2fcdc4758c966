use Rattle.std.proofs.Common.{◌≡◌, true}
use Rattle.world_core.proofs.EventPlaces.{site_known, lent}
use Rattle.world_core.proofs.DeskCalls.{refused, done}
use Rattle.request_queue.specs.Queues.{front_of}
use Rattle.site_core.specs.Faults.{can_serve, serve_fault}
use Rattle.world_core.specs.DeskEvents.{Serves}
use Rattle.world_core.specs.declared.reply.Reply.TheVariants.{Served, Nothing}
use Rattle.world_core.proofs.system.System.serve.Goals as goal
use Rattle.world_core.proofs.system.System.serve.Goals.{in-Some, in-None}

pub returns-in_err-ticket : goal.returns-in_err-ticket
returns-in_err-ticket g c =
    let at = lent _ c.args.self.now _ _ _ c.self.view_is c.index.ensures.value
    (site_known c.args.self.now _ c.requires) c.index_mut.ensures.value in
    refused {A = g.row.A.Denot} (λ d. serve_fault d) (λ d. can_serve d (front_of d.queue.waiting) ≡ true)
    (λ d. Serves d)
    _ _ _ _ _ _ _ _ at c.in_err-ticket.ensures.refused c.in_err-ticket.ensures.memory c.in_err-ticket.ensures.err
    c.from_residual.ensures.1

pub returns : goal.returns
returns g c =
    let at = lent _ c.args.self.now _ _ _ c.self.view_is c.index.ensures.value
    (site_known c.args.self.now _ c.requires) c.index_mut.ensures.value in
    elim c.match-branch-2.branch [
      | in-Some b ↦ rw b.result-is (done {A = g.row.A.Denot} (λ d. serve_fault d)
          (λ d. can_serve d (front_of d.queue.waiting) ≡ true) (λ d. Serves d) _ _ _ _ _ _
          (Served b.in-Some.ticket b.in-Some.number)
          at c.in_ok-ticket.ensures.refused (rw b.in-Some.is at c.in_ok-ticket.ensures.ok))
      | in-None b ↦ rw b.result-is (done {A = g.row.A.Denot} (λ d. serve_fault d)
          (λ d. can_serve d (front_of d.queue.waiting) ≡ true) (λ d. Serves d) _ _ _ _ _ _ Nothing
          at c.in_ok-ticket.ensures.refused (rw b.in-None.is at c.in_ok-ticket.ensures.ok))
    ]
