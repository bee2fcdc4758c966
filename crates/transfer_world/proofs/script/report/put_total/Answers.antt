use Rattle.std.proofs.Common.{◌∙◌, append_assoc}
use Rattle.std.proofs.lemmas.Result.{on_ok_weaker}
use Rattle.transfer_world.specs.Replies.{total_text}
use Rattle.transfer_world.proofs.script.report.put_total.Goals as goal

pub returns-clause-ok : goal.returns-clause-ok
unfolding total_text
returns-clause-ok g c =
    on_ok_weaker c.put_field-4.result (λ last. last ∙
    rw (
      c.in_ok-put_field-3.ensures.ok,
      c.in_ok-put_field-2.ensures.ok,
      c.in_ok-put_field.ensures.ok,
      c.totals-totals.ensures.issued,
      c.totals-totals.ensures.spent,
      c.totals-totals.ensures.held,
      c.totals-totals.ensures.way,
    ) (simp append_assoc)) c.put_field-4.ensures.ok
