use Rattle.std.proofs.Common.{◌∙◌}
use Rattle.std.proofs.lemmas.Result.{on_ok_weaker}
use Rattle.site_metrics.specs.Table.{kind_word}
use Rattle.site_metrics.proofs.TextLaws.{put_alone}
use Rattle.site_metrics.proofs.samples.put_alone.Goals as goal

pub returns-clause-ok : goal.returns-clause-ok
returns-clause-ok g c =
    on_ok_weaker c.put_value.result (λ last. last
    ∙ rw c.in_ok-put_led_head.ensures.ok
    (put_alone c.args.name.now c.args.help.now (kind_word c.args.kind) _ c.args.value)) c.put_value.ensures.ok
