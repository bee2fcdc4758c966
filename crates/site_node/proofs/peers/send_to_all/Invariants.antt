use Rattle.std.proofs.Common.{◌≡◌, ◌+◌, ◌*◌, ◌≤◌}
use Rattle.rights_types.specs.declared.limits.TheConstants.{MAX_NUMBER}
use Rattle.site_node.specs.ToPeers.{SendsToFirst}
use Rattle.site_node.proofs.peers.send_to_all.Given as goal

-- this many peers were sent what is due
abbrev pub invariant-loop-index : goal.invariant-loop-index
invariant-loop-index g l = record {
  first : SendsToFirst g.P.Peers.sends l.index l.initial.peers l.sent l.peers;
  range : l.sent ≤ l.index * (MAX_NUMBER + 2);
  same : g.P.Peers.size l.peers ≡ g.P.Peers.size l.initial.peers;
}
