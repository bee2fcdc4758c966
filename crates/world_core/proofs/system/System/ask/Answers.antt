use Rattle.std.proofs.Common.{Some, refl, subst}
use Rattle.std.specs.Option.{option_map}
use Rattle.rights_types.specs.Messages.MessageValue.{AnAsk}
use Rattle.transfer_manager.specs.Managers.{outstanding_ask}
use Rattle.entry_codec.specs.Spelling.{LineOf}
use Rattle.site_core.specs.Desks.{DeskValue}
use Rattle.world_core.proofs.EventPlaces.{link_known, lent}
use Rattle.world_core.proofs.LinkCalls.{sends_line}
use Rattle.world_core.proofs.system.System.ask.Goals as goal

pub returns-in-Some : goal.returns-in-Some
returns-in-Some g c =
    let at = lent _ c.args.self.now _ _ _ c.self.view_is c.index.ensures.value
    (link_known c.args.self.now _ _ c.requires).0 c.index-2.ensures in
    let line = c.in-Some.line in
    let spelled =
    subst (λ (d : DeskValue). LineOf (λ l. l.items) (option_map (λ ask. AnAsk ask)
    (outstanding_ask d.manager c.args.peer)) (Some line)) at.is (rw c.in-Some.is
    at c.in_ok-ask_line.ensures.line) in
    sends_line g.row.A.Denot (λ l. l.items) _ c.args.self.now _ _ _ _ line _ _ _ _ c.self.view_is spelled
    c.new.ensures refl c.in_ok-reserve_line.ensures.items c.add_line-number.ensures.number
    c.add_line-number.ensures.added
