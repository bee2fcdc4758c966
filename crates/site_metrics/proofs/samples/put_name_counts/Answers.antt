use Rattle.std.proofs.Common.{◌∷◌, ◌∙◌, arith}
use Rattle.site_metrics.specs.Format.{sample_line}
use Rattle.site_metrics.specs.Table.{name_sample}
use Rattle.site_metrics.proofs.RefusalLaws.{name_more}
use Rattle.site_metrics.proofs.samples.put_name_counts.Goals as goal

pub loop-index-preserved : goal.loop-index-preserved
loop-index-preserved g c = record {
  text = name_more (λ e. 10 ∷ sample_line c.args.name.now (name_sample e)) c.args.replies.now.part
      c.loop-index.replies.part c.put_name_count.new.replies.part
      c.args.counts.now c.loop-index.index c.refusal_name.result.now (omega (arith, c.loop-index-test.true))
      (omega (arith, c.told-counts))
      c.loop-index.invariant.text c.refusal_name.ensures.name c.in_ok-put_name_count.ensures.ok;
  room = omega (arith, c.loop-index.invariant.room, c.in_ok-put_name_count.ensures.left);
  kept = c.in_ok-put_name_count.ensures.kept ∙ c.loop-index.invariant.kept;
}
