use Rattle.std.proofs.Common.{◌∙◌, arith}
use Rattle.transfer_world.specs.Replies.{other_line}
use Rattle.transfer_world.proofs.ReportLaws.{lines_next}
use Rattle.transfer_world.proofs.script.report.put_pairs.Goals as goal

pub loop-number-preserved : goal.loop-number-preserved
loop-number-preserved g c = record {
  lines = lines_next (other_line c.args.world.now c.args.site) c.loop-number.number _ _ _ (omega arith)
      c.loop-number.invariant.lines (rw (c.known.ensures) at c.in_ok-put_other.ensures.ok);
  kept = c.in_ok-put_other.ensures.kept ∙ c.loop-number.invariant.kept;
}
