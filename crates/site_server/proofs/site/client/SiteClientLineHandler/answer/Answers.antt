use Rattle.site_server.specs.Replying.{given}
use Rattle.site_server.proofs.KeyedLines.{given_asked}
use Rattle.site_server.proofs.ConfirmedLaws.{line_gets}
use Rattle.site_server.proofs.site.client.SiteClientLineHandler.answer.Goals as goal

pub returns-clause-ok : goal.returns-clause-ok
returns-clause-ok g c = λ line is.
    line_gets g.P.Peers.size g.P.Peers.sends g.P.Peers.stops g.D.DeskNames.id (λ s. s.seat) (λ s. s.peers)
    (λ s. g.B.TickSignal.shows s.signal) c.in_ok-answered.answered c.counted.result (given c.time-time.result c.args.text) line
    c.args.self.now c.answer_or_end.new.self c.args.replies.now c.answer_or_end.new.replies
    (c.time-time.result, rw (← c.self.view_is) c.time-time.ensures, given_asked c.time-time.result line c.args.text is) c.in_ok-answered.ensures.ok c.counted.ensures
