use Rattle.std.proofs.Common.{◌≡◌, ℕ, Some, ap}
use Rattle.rights_types.specs.Messages.MessageValue.{AnAnswer}
use Rattle.origin_log.specs.Answering.{answer_to_query}
use Rattle.world_core.specs.Values.{PacketValue}
use Rattle.world_core.specs.Values.BodyValue.{Text}
use Rattle.world_core.proofs.EventPlaces.{lent}
use Rattle.world_core.proofs.LinkCalls.{sends_line}
use Rattle.world_core.proofs.MessageLaws.{answers}
use Rattle.world_core.proofs.system.System.query_comes.Goals as goal

pub returns : goal.returns
returns g c =
    let w = c.args.self.now in
    let site = c.args.site in
    let q = c.args.query.now in
    let was = c.index-2.result.now in
    let line = c.in-Ok.line in
    let at = lent _ w _ _ _ c.self.view_is c.index.ensures.value c.requires c.index-2.ensures in
    let packet : PacketValue = record { from = site; to = c.asker.result; body = Text c.new.result } in
    let made : packet ≡ record { from = site; to = q.asker; body = Text c.new.result } =
    ap (λ (k : ℕ). record { from = site; to = k; body = Text c.new.result }) c.asker.ensures.value in
    let sent =
    sends_line g.row.A.Denot (λ l. l.items) _ w site q.asker c.add_line-number.result
    (Some (AnAnswer (answer_to_query q was.ledger.log))) line c.new.result packet _ _ c.self.view_is c.in-Ok.ensures.ok
    c.new.ensures made c.in_ok-reserve_line.ensures.items c.add_line-number.ensures.number
    c.add_line-number.ensures.added in
    answers g.row.A.Denot _ w _ _ was q _ _ at c.in-Ok.ensures.refused sent
