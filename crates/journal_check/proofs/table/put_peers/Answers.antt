use Rattle.std.proofs.Common.{◌∙◌}
use Rattle.journal_check.proofs.Rows.{row_added}
use Rattle.journal_check.proofs.table.put_peers.Goals as goal

pub loop-index-preserved : goal.loop-index-preserved
loop-index-preserved c = (
  row_added c.args.desk.now c.loop-index.index _ _ _ c.loop-index.invariant.0 c.in_ok-put_peer.ensures.ok,
  c.in_ok-put_peer.ensures.kept ∙ c.loop-index.invariant.1,
)
