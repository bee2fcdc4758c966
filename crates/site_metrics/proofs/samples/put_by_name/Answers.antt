use Rattle.std.proofs.Common.{◌∙◌}
use Rattle.std.proofs.lemmas.Result.{on_ok_weaker}
use Rattle.site_metrics.specs.Table.{kind_word}
use Rattle.site_metrics.proofs.TextLaws.{put_names}
use Rattle.site_metrics.proofs.samples.put_by_name.Goals as goal

pub returns-clause-ok : goal.returns-clause-ok
returns-clause-ok g c =
    on_ok_weaker c.put_name_counts.result (λ last. last
    ∙ rw c.in_ok-put_led_head.ensures.ok
    (put_names c.args.name.now c.args.help.now (kind_word c.args.kind) _ c.args.counts.now))
    c.put_name_counts.ensures.ok
