use Rattle.std.proofs.Common.{take}
use Rattle.site_server.specs.Replying.{AreOfPeers}
use Rattle.site_server.proofs.site.client.peer_views.Given as goal

abbrev pub invariant-loop-peer : goal.invariant-loop-peer
invariant-loop-peer l = AreOfPeers l.desk (take l.peer-index l.peers) l.views.items
