use Rattle.std.proofs.Common.{◌∙◌, ap}
use Rattle.refusals.specs.Refusals.{LineAnswer}
use Rattle.site_journal.proofs.Reading.{if_ok_map}
use Rattle.site_server.specs.Replying.{under}
use Rattle.site_server.proofs.CallLaws.{answers_line}
use Rattle.site_server.proofs.site.client.SiteClient.tell_asked.Goals as goal

pub returns-clause-ok : goal.returns-clause-ok
returns-clause-ok g c =
    if_ok_map c.tell_by.result _ _ (λ how told line given.
    let answer : LineAnswer = record { text = told.0; how = how } in
    let spelled = c.command_in.ensures line given in (
      told.0,
      answers_line g.P.Peers.size g.P.Peers.sends g.P.Peers.stops g.D.DeskNames.id g.B.TickSignal.has_ended
          g.B.TickSignal.has_left g.B.TickSignal.shows c.args.key c.args.waits c.under-command.result line answer
          c.args.self.now c.tell_by.new.self
          (spelled.0, spelled.1, c.under-command.ensures ∙ ap (under c.args.key) spelled.2) told.1,
      told.2,
    )) c.tell_by.ensures.ok
