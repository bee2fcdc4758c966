use Rattle.std.proofs.Common.{map}
use Rattle.std.specs.String.{string_bytes}
use Rattle.site_server.proofs.CallLaws.{counts_calls}
use Rattle.site_server.proofs.site.serving.answer_requests.Goals as goal

pub returns : goal.returns
returns g c = (
  c.converse.ensures,
  counts_calls g.P.Peers.size g.P.Peers.sends g.P.Peers.stops g.D.DeskNames.id g.B.TickSignal.has_ended
      g.B.TickSignal.has_left g.B.TickSignal.shows (map string_bytes c.args.names.now)
      c.args.client c.converse.ensures.history.calls c.converse.result c.converse.ensures.calls,
)
