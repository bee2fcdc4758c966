use Rattle.world_core.proofs.EventPlaces.{site_known, lent}
use Rattle.world_core.proofs.DeskCalls.{refused, done}
use Rattle.world_core.specs.declared.reply.Reply.TheVariants.{Expired}
use Rattle.world_core.specs.DeskEvents.{Never, Expires}
use Rattle.site_core.specs.Faults.{expire_fault}
use Rattle.world_core.proofs.system.System.expire.Goals as goal

pub returns-in_err-count : goal.returns-in_err-count
returns-in_err-count g c =
    let at = lent _ c.args.self.now _ _ _ c.self.view_is c.index.ensures.value
    (site_known c.args.self.now _ c.requires) c.index_mut.ensures.value in
    refused {A = g.row.A.Denot} (λ d. expire_fault d c.args.time) (λ d. Never)
    (λ d. Expires d c.args.time) _ _ _ _ _ _ _ _
    at c.in_err-count.ensures.refused (c.in_err-count.ensures.memory) c.in_err-count.ensures.err
    c.from_residual.ensures.1

pub returns : goal.returns
returns g c =
    let at = lent _ c.args.self.now _ _ _ c.self.view_is c.index.ensures.value
    (site_known c.args.self.now _ c.requires) c.index_mut.ensures.value in
    done {A = g.row.A.Denot} (λ d. expire_fault d c.args.time) (λ d. Never) (λ d. Expires d c.args.time) _ _ _ _ _ _
    (Expired c.in_ok-count.count)
    at c.in_ok-count.ensures.refused c.in_ok-count.ensures.ok
