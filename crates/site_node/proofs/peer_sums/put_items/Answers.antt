use Rattle.std.proofs.Common.{◌∙◌}
use Rattle.site_node.proofs.PeerRows.{item_added}
use Rattle.site_node.proofs.peer_sums.put_items.Goals as goal

pub loop-index-preserved : goal.loop-index-preserved
loop-index-preserved g c = (
  item_added c.args.desk.now c.loop-index.index _ _ _ c.loop-index.invariant.0 c.in_ok-put_item.ensures.ok,
  c.in_ok-put_item.ensures.kept ∙ c.loop-index.invariant.1,
)
