use Rattle.std.proofs.Common.{None, refl}
use Rattle.world_core.proofs.EventPlaces.{site_known, lent}
use Rattle.world_core.proofs.DeskCalls.{done}
use Rattle.world_core.specs.declared.reply.Reply.TheVariants.{Asks}
use Rattle.world_core.specs.DeskEvents.{Never, PlansAsks}
use Rattle.world_core.proofs.system.System.plan.Goals as goal

pub returns : goal.returns
returns g c =
    let at = lent _ c.args.self.now _ _ _ c.self.view_is c.index.ensures.value
    (site_known c.args.self.now _ c.requires) c.index_mut.ensures.value in
    done {A = g.row.A.Denot} (λ d. None) (λ d. Never) (λ d. PlansAsks d) _ _ _ _ _ _ (Asks c.plan-count.result)
    at refl c.plan-count.ensures
