use Rattle.std.proofs.Common.{◌≡◌, ◌++◌}
use Rattle.transfer_world.specs.Replies.{other_line}
use Rattle.transfer_world.proofs.ReportLaws.{lines_below}
use Rattle.transfer_world.proofs.script.report.put_pairs.Given as goal

abbrev pub invariant-loop-number : goal.invariant-loop-number
invariant-loop-number g l = record {
  lines : l.replies.part ≡ l.fn.replies.part ++ lines_below (other_line l.world l.site) l.number;
  kept : l.replies.whole ≡ l.fn.replies.whole;
}
