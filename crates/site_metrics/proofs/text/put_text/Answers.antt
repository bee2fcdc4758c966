use Rattle.std.proofs.Common.{◌∙◌}
use Rattle.std.proofs.lemmas.Result.{on_ok_weaker}
use Rattle.site_metrics.proofs.TextLaws.{whole_text}
use Rattle.site_metrics.proofs.text.put_text.Goals as goal

pub returns-clause-ok : goal.returns-clause-ok
returns-clause-ok g c =
    on_ok_weaker c.finish.result (λ adds. (
      adds.whole ∙ rw (c.in_ok-put_all.ensures.kept, c.in_ok-put_all.ensures.ok, c.requires)
          (whole_text _ c.args.metrics.now c.args.peers.now),
      adds.part,
    )) c.finish.ensures.ok
