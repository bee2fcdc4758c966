use Rattle.std.proofs.Common.{◌≡◌, ◌++◌, take}
use Rattle.site_node.specs.Texts.{more_requests}
use Rattle.site_node.proofs.queue.put_more.Given as goal

abbrev pub invariant-loop-request : goal.invariant-loop-request
invariant-loop-request g l = record {
  part : l.replies.part ≡ l.initial.replies.part ++ more_requests (take l.request-index l.requests);
  kept : l.replies.whole ≡ l.initial.replies.whole;
}
