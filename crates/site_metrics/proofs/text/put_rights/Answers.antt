use Rattle.std.proofs.Common.{◌∙◌}
use Rattle.std.proofs.lemmas.Result.{on_ok_weaker}
use Rattle.site_metrics.proofs.TextLaws.{first_seven, put_first}
use Rattle.site_metrics.proofs.text.put_rights.Goals as goal

pub returns-clause-ok : goal.returns-clause-ok
returns-clause-ok g c =
    on_ok_weaker c.put_alone-6.result (λ last. last
    ∙ rw (
      c.in_ok-put_alone-5.ensures.ok,
      c.in_ok-put_alone-4.ensures.ok,
      c.in_ok-put_alone-3.ensures.ok,
      c.in_ok-put_alone-2.ensures.ok,
      c.in_ok-put_alone.ensures.ok,
      c.in_ok-put_value.ensures.ok,
      c.in_ok-put_head.ensures.ok,
      put_first _ _ _ _ _,
    ) (first_seven _ _ _ _ _ _ _ _)) c.put_alone-6.ensures.ok
