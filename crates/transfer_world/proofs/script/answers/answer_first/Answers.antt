use Rattle.std.proofs.Common.{refl, ap, ◌∙◌, codes, Some}
use Rattle.std.proofs.lemmas.Result.{on_ok_weaker}
use Rattle.world_core.specs.Worlds.{start}
use Rattle.transfer_world.proofs.script.answers.answer_first.Goals as goal

pub returns-clause-ok : goal.returns-clause-ok
returns-clause-ok g c =
    on_ok_weaker c.put-2.result (λ put. (
      codes "ok",
      rw c.in-Sites.is (refl, ap Some (c.in_ok-for_replies.ensures ∙ ap start c.number.ensures.value)),
      put,
    )) c.put-2.ensures.ok
