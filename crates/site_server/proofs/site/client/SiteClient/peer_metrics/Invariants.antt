use Rattle.std.proofs.Common.{All}
use Rattle.site_server.specs.Measuring.{HasApplied}
use Rattle.site_server.proofs.site.client.SiteClient.peer_metrics.Given as goal

abbrev pub invariant-loop-peer : goal.invariant-loop-peer
invariant-loop-peer g l = All (HasApplied l.desk) l.peers.items
