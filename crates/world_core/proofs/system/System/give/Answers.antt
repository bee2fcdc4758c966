use Rattle.world_core.proofs.EventPlaces.{site_known, lent}
use Rattle.world_core.proofs.DeskCalls.{refused, done}
use Rattle.world_core.specs.declared.reply.Reply.TheVariants.{Number}
use Rattle.std.proofs.Common.{[], ◌∷◌}
use Rattle.rights_types.specs.declared.moves.Move.TheVariants.{Give}
use Rattle.world_core.specs.DeskEvents.{Always, Writes}
use Rattle.site_core.specs.Faults.{give_fault}
use Rattle.world_core.proofs.system.System.give.Goals as goal

pub returns-in_err-number : goal.returns-in_err-number
returns-in_err-number g c =
    let at = lent _ c.args.self.now _ _ _ c.self.view_is c.index.ensures.value
    (site_known c.args.self.now _ c.requires) c.index_mut.ensures.value in
    refused {A = g.row.A.Denot} (λ d. give_fault d c.args.peer c.args.amount) (λ d. Always) (λ d. Writes d
    (Give c.args.peer c.args.amount ∷ [])) _ _ _ _ _ _ _ _
    at c.in_err-number.ensures.refused (λ _. tt) c.in_err-number.ensures.err c.from_residual.ensures.1

pub returns : goal.returns
returns g c =
    let at = lent _ c.args.self.now _ _ _ c.self.view_is c.index.ensures.value
    (site_known c.args.self.now _ c.requires) c.index_mut.ensures.value in
    done {A = g.row.A.Denot} (λ d. give_fault d c.args.peer c.args.amount) (λ d. Always) (λ d. Writes d
    (Give c.args.peer c.args.amount ∷ [])) _ _ _ _ _ _ (Number c.in_ok-number.number)
    at c.in_ok-number.ensures.refused (c.in_ok-number.ensures.ok, c.in_ok-number.ensures.number)
