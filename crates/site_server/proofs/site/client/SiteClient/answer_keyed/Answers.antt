use Rattle.std.proofs.Common.{subst}
use Rattle.site_journal.proofs.Reading.{if_ok_map}
use Rattle.line_streams.specs.Words.{words_left}
use Rattle.refusals.specs.Refusals.{LineAnswer}
use Rattle.site_server.specs.Connections.{Tells}
use Rattle.site_server.proofs.KeyedLines.{keyed_says}
use Rattle.site_server.proofs.site.client.SiteClient.answer_keyed.Goals as goal

pub returns-clause-ok : goal.returns-clause-ok
returns-clause-ok g c =
    if_ok_map c.answer_command.result _ _ (λ how h. (
      h.0,
      keyed_says g.P.Peers.size g.P.Peers.sends g.P.Peers.stops g.D.DeskNames.id c.args.self.now.seat c.args.self.now.peers
          (record { text = h.0; how = how }) c.answer_command.new.self.seat c.answer_command.new.self.peers c.args.time
          (words_left c.args.words)
          (subst (λ command. Tells g.P.Peers.size g.P.Peers.sends g.P.Peers.stops g.D.DeskNames.id command
          c.args.self.now.seat c.args.self.now.peers (record { text = h.0; how = how })
          c.answer_command.new.self.seat c.answer_command.new.self.peers) c.read_keyed.ensures h.1),
      h.2,
    )) c.answer_command.ensures.ok
