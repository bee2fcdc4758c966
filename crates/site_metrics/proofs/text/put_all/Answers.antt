use Rattle.std.proofs.Common.{◌∙◌}
use Rattle.std.proofs.lemmas.Result.{on_ok_weaker}
use Rattle.site_metrics.proofs.TextLaws.{all_parts}
use Rattle.site_metrics.proofs.text.put_all.Goals as goal

pub returns-clause-ok : goal.returns-clause-ok
returns-clause-ok g c =
    on_ok_weaker c.put_journal.result (λ last. last
    ∙ rw (
      c.in_ok-put_lines.ensures.ok,
      c.in_ok-put_logs.ensures.ok,
      c.in_ok-put_clients.ensures.ok,
      c.in_ok-put_state.ensures.ok,
      c.in_ok-put_rights.ensures.ok,
    ) (all_parts _ c.args.metrics.now c.args.peers.now)) c.put_journal.ensures.ok
