use Rattle.std.proofs.Common.{◌∙◌}
use Rattle.std.proofs.lemmas.Result.{on_ok_weaker}
use Rattle.site_metrics.proofs.TextLaws.{four}
use Rattle.site_metrics.proofs.text.put_values.Goals as goal

pub returns-clause-ok : goal.returns-clause-ok
returns-clause-ok g c =
    on_ok_weaker c.put_alone-4.result (λ last. last
    ∙ rw (
      c.in_ok-put_alone-3.ensures.ok,
      c.in_ok-put_alone-2.ensures.ok,
      c.in_ok-put_alone.ensures.ok,
    ) (four _ _ _ _ _)) c.put_alone-4.ensures.ok
