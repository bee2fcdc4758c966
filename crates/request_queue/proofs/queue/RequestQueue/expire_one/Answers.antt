use Rattle.std.proofs.Common.{◌≡◌, Some, None, subst, position}
use Rattle.request_queue.specs.Queues.{QueueValue, is_late}
use Rattle.request_queue.specs.Calls.{Expires}
use Rattle.request_queue.proofs.Lists.{index_in}
use Rattle.request_queue.specs.declared.request.Outcome.TheVariants.{Expired}
use Rattle.request_queue.proofs.Reading.{expires, expires_none, finishes_one}
use Rattle.request_queue.proofs.queue.RequestQueue.expire_one.Goals as goal

pub returns-in_err-index-clause-expires : goal.returns-in_err-index-clause-expires
returns-in_err-index-clause-expires g c =
    let q : QueueValue = record {
      waiting = c.self.inside.waiting.items;
      outcomes = c.self.inside.outcomes.items;
      next = c.self.inside.next;
    } in
    let none : position (is_late c.args.now) q.waiting ≡ None
    = index_in (is_late c.args.now) c.deref.result.now q.waiting None c.deref.ensures.value
    c.in_err-index.ensures in
    rw c.from_residual.ensures
    (subst (λ (v : QueueValue). Expires v c.args.now None v) c.self.view_is (expires_none q c.args.now none))

pub returns-clause-expires : goal.returns-clause-expires
returns-clause-expires g c =
    let q : QueueValue = record {
      waiting = c.self.inside.waiting.items;
      outcomes = c.self.inside.outcomes.items;
      next = c.self.inside.next;
    } in
    let there : position (is_late c.args.now) q.waiting ≡ Some c.in_ok-index.index
    = index_in (is_late c.args.now) c.deref.result.now q.waiting (Some c.in_ok-index.index) c.deref.ensures.value
    c.in_ok-index.ensures in
    let found = subst (λ (v : QueueValue). position (is_late c.args.now) v.waiting ≡ Some c.in_ok-index.index)
    c.self.view_is there in
    expires c.args.self.now c.args.now c.in_ok-index.index c.finish.result c.finish.new.self found c.finish.ensures

pub returns-clause-fewer : goal.returns-clause-fewer
returns-clause-fewer g c = finishes_one c.args.self.now c.in_ok-index.index Expired c.finish.result c.finish.new.self
    c.finish.ensures
