use Rattle.std.proofs.Common.{◌≡◌, ◌++◌}
use Rattle.transfer_world.specs.Replies.{site_line, pair_lines}
use Rattle.transfer_world.proofs.ReportLaws.{lines_below}
use Rattle.transfer_world.proofs.script.report.put_report.Given as goal

abbrev pub invariant-sites : goal.invariant-sites
invariant-sites g l = record {
  lines : l.replies.part ≡ l.fn.replies.part ++ lines_below (site_line l.world) l.number;
  kept : l.replies.whole ≡ l.fn.replies.whole;
}

abbrev pub invariant-pairs : goal.invariant-pairs
invariant-pairs g l = record {
  lines : l.replies.part ≡ l.initial.replies.part ++ lines_below (pair_lines l.world) l.number;
  kept : l.replies.whole ≡ l.fn.replies.whole;
}
