use Rattle.std.proofs.Common.{◌≡◌, ◌++◌}
use Rattle.site_node.specs.PeerSums.{peer_items}
use Rattle.site_node.proofs.peer_sums.put_items.Given as goal

-- the objects of the other sites up to here
abbrev pub invariant-loop-index : goal.invariant-loop-index
invariant-loop-index g l = (l.replies.part ≡ l.initial.replies.part ++ peer_items l.desk l.index)
    × (l.replies.whole ≡ l.initial.replies.whole)
