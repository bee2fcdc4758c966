use Rattle.std.proofs.Common.{◌∙◌, arith}
use Rattle.transfer_world.specs.Replies.{site_line, pair_lines}
use Rattle.transfer_world.proofs.ReportLaws.{lines_next}
use Rattle.transfer_world.proofs.script.report.put_report.Goals as goal

pub sites-preserved : goal.sites-preserved
sites-preserved g c = record {
  lines = lines_next (site_line c.args.world.now) c.sites.number _ _ _ (omega arith) c.sites.invariant.lines
      (rw (c.known.ensures) at c.in_ok-put_site.ensures.ok);
  kept = c.in_ok-put_site.ensures.kept ∙ c.sites.invariant.kept;
}

pub pairs-preserved : goal.pairs-preserved
pairs-preserved g c = record {
  lines = lines_next (pair_lines c.args.world.now) c.pairs.number _ _ _ (omega arith) c.pairs.invariant.lines
      (rw (c.known-in-pairs.ensures) at c.in_ok-put_pairs.ensures.ok);
  kept = c.in_ok-put_pairs.ensures.kept ∙ c.pairs.invariant.kept;
}
