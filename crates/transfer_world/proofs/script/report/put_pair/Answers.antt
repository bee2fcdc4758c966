use Rattle.std.proofs.Common.{◌∙◌, append_assoc}
use Rattle.std.proofs.lemmas.Result.{on_ok_weaker}
use Rattle.transfer_world.specs.Replies.{pair_line}
use Rattle.transfer_world.proofs.script.report.put_pair.Goals as goal

pub returns-clause-ok : goal.returns-clause-ok
unfolding pair_line
returns-clause-ok g c =
    on_ok_weaker c.put.result (λ last. last ∙
    rw (
      c.in_ok-put_field-5.ensures.ok,
      c.in_ok-put_field-4.ensures.ok,
      c.in_ok-put_field-3.ensures.ok,
      c.in_ok-put_field-2.ensures.ok,
      c.in_ok-put_field.ensures.ok,
      c.number.ensures.value,
      c.number-2.ensures.value,
      c.applied_end.ensures,
      c.put_end.ensures,
      c.way.ensures,
    ) (simp append_assoc)) c.put.ensures.ok
