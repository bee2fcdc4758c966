use Rattle.std.proofs.Common.{◌∙◌}
use Rattle.std.proofs.lemmas.Result.{on_ok_weaker}
use Rattle.site_metrics.proofs.TextLaws.{six}
use Rattle.site_metrics.proofs.text.put_logs.Goals as goal

pub returns-clause-ok : goal.returns-clause-ok
returns-clause-ok g c =
    on_ok_weaker c.put_by_peer-6.result (λ last. last
    ∙ rw (
      c.in_ok-put_by_peer-5.ensures.ok,
      c.in_ok-put_by_peer-4.ensures.ok,
      c.in_ok-put_by_peer-3.ensures.ok,
      c.in_ok-put_by_peer-2.ensures.ok,
      c.in_ok-put_by_peer.ensures.ok,
    ) (six _ _ _ _ _ _ _)) c.put_by_peer-6.ensures.ok
