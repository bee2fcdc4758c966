use Rattle.std.proofs.Common.{◌≡◌, ℕ, Option, Some, None, sym, ap, ◌∙◌}
use Rattle.entry_codec.specs.Reading.{reading}
use Rattle.rights_types.specs.Places.{at_site}
use Rattle.rights_types.specs.declared.message.Message.{Message}
use Rattle.inbound.specs.Inbounds.{line_fault}
use Rattle.world_core.specs.Values.{LinkValue}
use Rattle.world_core.specs.Worlds.{link}
use Rattle.world_core.proofs.EventPlaces.{lent_row}
use Rattle.world_core.proofs.IndexLaws.{link_at, is_linked}
use Rattle.world_core.proofs.ArrivalLaws.{is_said, no_fault, not_refused}
use Rattle.world_core.proofs.system.System.read.Given as given
use Rattle.world_core.proofs.system.System.read.Goals as goal
use Rattle.world_core.proofs.system.System.read.Goals.{After-index-2}

-- the link that is read is that of the packet's receiver to its sender
read_at : (g : given.Over) (c : goal.After-index-2 g) (from : ℕ) (found : Option LinkValue)
    → from ≡ c.args.packet.now.from → found ≡ at_site c.index-2.result.now from None
    → found ≡ link c.args.self.now c.args.packet.now.to c.args.packet.now.from
read_at g c from found same read =
    let w = c.args.self.now in
    let p = c.args.packet.now in
    let row =
    lent_row _ w _ p.to _ c.self.view_is (c.index.ensures.value ∙ c.to.ensures) c.requires.sent.to c.requires.kept.rows
    c.index-2.ensures in
    link_at w p.to p.from from c.index-2.result.now found row.is same read

pub unreachable-requires : goal.unreachable-requires
unreachable-requires g c =
    let w = c.args.self.now in
    let p = c.args.packet.now in
    let sent = c.requires.sent in
    let at = (goal.at.unreachable-requires g c).After-index-2 in
    is_linked w p.to p.from c.requires.kept sent.to sent.from sent.differ
    (read_at g at c.from.result None c.from.ensures c.in_default.ensures)

pub unreachable-requires-in_default-fault : goal.unreachable-requires-in_default-fault
unreachable-requires-in_default-fault g c =
    let w = c.args.self.now in
    let p = c.args.packet.now in
    let l = c.in-Some.link.now in
    let read = reading c.line_of.result.now in
    let at = (goal.at.unreachable-requires-in_default-fault g c).After-index-2 in
    let there = read_at g at c.from.result (Some l) c.from.ensures c.in-Some.ensures in
    let none : line_fault l.inbound read ≡ None =
    ap (λ t. line_fault l.inbound (reading t)) c.line_of.ensures
    ∙ no_fault w p l c.requires.kept c.requires.sent (sym there) in
    not_refused (Message g.row.A.Denot) l.inbound read c.in-Err.fault none c.in-Err.ensures.refused
    c.in_default-fault.not-OutOfMemory

pub returns-in-Ok-clause-spelled : goal.returns-in-Ok-clause-spelled
returns-in-Ok-clause-spelled g c =
    let read = ap reading (sym c.line_of.ensures) ∙ c.in-Ok.ensures.ok in
    (is_said c.args.self.now c.args.packet.now _ c.requires.kept c.requires.sent read).spelled

pub returns-in-Ok-clause-may : goal.returns-in-Ok-clause-may
returns-in-Ok-clause-may g c =
    let read = ap reading (sym c.line_of.ensures) ∙ c.in-Ok.ensures.ok in
    (is_said c.args.self.now c.args.packet.now _ c.requires.kept c.requires.sent read).may

pub returns-in-OutOfMemory-clause-memory : goal.returns-in-OutOfMemory-clause-memory
returns-in-OutOfMemory-clause-memory g c =
    let m = c.in-Err.ensures.memory c.in-OutOfMemory.is in
    let read = ap reading (sym c.line_of.ensures) ∙ m.1 in
    (m.0, (is_said c.args.self.now c.args.packet.now m.0 c.requires.kept c.requires.sent read).spelled, m.2)
