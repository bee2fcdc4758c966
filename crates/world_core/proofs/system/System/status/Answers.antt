use Rattle.std.proofs.Common.{None, refl}
use Rattle.world_core.proofs.EventPlaces.{site_known, lent}
use Rattle.world_core.proofs.DeskCalls.{done}
use Rattle.world_core.specs.declared.reply.Reply.TheVariants.{Tells}
use Rattle.world_core.specs.DeskEvents.{Never, TellsStatus}
use Rattle.world_core.proofs.system.System.status.Goals as goal

pub returns : goal.returns
returns g c =
    let at = lent _ c.args.self.now _ _ _ c.self.view_is c.index.ensures.value
    (site_known c.args.self.now _ c.requires) c.index_mut.ensures.value in
    done {A = g.row.A.Denot} (λ d. None) (λ d. Never) (λ d. TellsStatus d c.args.ticket) _ _ _ _ _ _
    (Tells c.status-status.result)
    at refl (c.status-status.ensures.outcome, c.status-status.ensures.rest)
