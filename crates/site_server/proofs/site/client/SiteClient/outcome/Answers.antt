use Rattle.std.proofs.Common.{◌∙◌, sym, ap}
use Rattle.site_server.specs.Connections.{ClientValue}
use Rattle.site_server.proofs.SettleLaws.{waits_again}
use Rattle.site_server.proofs.site.client.SiteClient.outcome.Goals as goal

pub ticks-preserved : goal.ticks-preserved
ticks-preserved g c =
    let before = c.ticks.invariant in
    let seat = c.act-reply.new.self.seat in (
      tt,
      tt,
      c.act-reply.ensures.rest
          ∙ ap (λ (s : ClientValue g.row.P.Denot g.row.B.Denot). record s { seat = seat }) before.2,
      waits_again g.D.DeskNames.id c.args.self.now.seat c.ticks.self.seat c.args.ticket c.act-reply.result seat
          before.3 c.act-reply.ensures.acts (sym c.if-not-is_waiting.ensures),
    )
