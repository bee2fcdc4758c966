use Rattle.std.proofs.Common.{◌∙◌}
use Rattle.journal_check.proofs.Rows.{item_added}
use Rattle.journal_check.proofs.json.put_items.Goals as goal

pub loop-index-preserved : goal.loop-index-preserved
loop-index-preserved c = (
  item_added c.args.desk.now c.loop-index.index _ _ _ c.loop-index.invariant.0 c.in_ok-put_item.ensures.ok,
  c.in_ok-put_item.ensures.kept ∙ c.loop-index.invariant.1,
)
