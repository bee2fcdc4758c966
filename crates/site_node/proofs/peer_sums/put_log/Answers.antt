use Rattle.std.proofs.Common.{◌∙◌, append_assoc}
use Rattle.std.proofs.lemmas.Result.{on_ok_weaker}
use Rattle.site_node.specs.PeerSums.{log_members}
use Rattle.site_node.proofs.peer_sums.put_log.Goals as goal

pub returns-clause-ok : goal.returns-clause-ok
unfolding log_members
returns-clause-ok g c =
    on_ok_weaker c.put-2.result (λ last. last ∙
    rw (
      c.in_ok-put.ensures.ok,
      c.in_ok-put_field.ensures.ok,
      c.truth.ensures,
    ) (simp append_assoc)) c.put-2.ensures.ok
