use Rattle.site_server.proofs.SendLaws.{sends_to_peer, stops_at_outbox}
use Rattle.site_server.proofs.site.outboxes.Outboxes.send_to.Goals as goal

pub returns-clause-sends : goal.returns-clause-sends
returns-clause-sends g c =
    let t = c.take.ensures in
    sends_to_peer g.D.DeskNames.id c.args.self.now.peers.now c.args.index c.index-peers-index.result
    (record { turns = c.args.self.now.turns; holds = c.args.self.now.holds.items })
    (record { turns = c.take.new.self; holds = c.take.new.with.items }) t.old t.new c.index-peers-index.is c.requires t.one t.before c.take.result t.does.ok

pub returns-clause-stops : goal.returns-clause-stops
returns-clause-stops g c =
    let t = c.take.ensures in
    stops_at_outbox g.D.DeskNames.id c.args.self.now.peers.now c.args.index c.index-peers-index.result
    (record { turns = c.args.self.now.turns; holds = c.args.self.now.holds.items })
    (record { turns = c.take.new.self; holds = c.take.new.with.items }) t.old t.new c.index-peers-index.is c.requires t.one t.before c.take.result t.does.err
