use Rattle.std.proofs.Common.{◌∙◌, append_assoc}
use Rattle.std.proofs.lemmas.Result.{on_ok_weaker}
use Rattle.site_node.specs.PeerSums.{last_members}
use Rattle.site_node.proofs.peer_sums.put_last.Goals as goal

pub returns-clause-ok : goal.returns-clause-ok
unfolding last_members
returns-clause-ok g c =
    on_ok_weaker c.put.result (λ last. last ∙
    rw (
      c.in_ok-put_integer.ensures.ok,
      c.in_ok-put_field-2.ensures.ok,
      c.in_ok-put_field.ensures.ok,
      c.number.ensures.value,
    ) (simp append_assoc)) c.put.ensures.ok
