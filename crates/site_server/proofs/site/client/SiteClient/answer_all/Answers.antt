use Rattle.site_server.proofs.ConfirmedLaws.{counts_replies}
use Rattle.site_server.proofs.site.client.SiteClient.answer_all.Goals as goal

pub returns-clause-ends : goal.returns-clause-ends
returns-clause-ends g c =
    let ends = c.answer_lines.ensures.ends in (
      ends.0,
      ends.1,
      counts_replies g.P.Peers.size g.P.Peers.sends g.P.Peers.stops g.D.DeskNames.id (λ s. s.seat)
          (λ s. s.peers) (λ s. g.B.TickSignal.shows s.signal) c.args.self.now c.answer_lines.new.handler c.answer_lines.result ends.0 ends.2,
    )
