use Rattle.std.proofs.Common.{arith, subst}
use Rattle.request_queue.specs.Queues.{QueueValue}
use Rattle.request_queue.specs.Calls.{Finishes}
use Rattle.request_queue.proofs.Keeps.{keeps_settled}
use Rattle.request_queue.proofs.Reading.{finishes}
use Rattle.request_queue.proofs.queue.RequestQueue.finish.Goals as goal

pub invariant_of-self : goal.invariant_of-self
invariant_of-self g c =
    let q : QueueValue = record {
      waiting = c.self.inside.waiting.items;
      outcomes = c.self.inside.outcomes.items;
      next = c.self.inside.next;
    } in
    let pushed = rw c.unwrap.ensures at c.push.ensures.items in
    let within = rw (← c.self.view_is) at c.requires in (
      rw (c.remove-request.ensures.items, pushed)
          (keeps_settled q c.args.index c.remove-request.result c.args.outcome c.self.invariant.0 within
          c.remove-request.ensures.value),
      omega (arith, c.remove-request.ensures.capacity, c.self.invariant.1),
      omega (arith, c.push.ensures.capacity, c.self.invariant.2),
    )

pub returns : goal.returns
returns g c =
    let q : QueueValue = record {
      waiting = c.self.inside.waiting.items;
      outcomes = c.self.inside.outcomes.items;
      next = c.self.inside.next;
    } in
    let pushed = rw c.unwrap.ensures at c.push.ensures.items in
    let within = rw (← c.self.view_is) at c.requires in
    let new : QueueValue = record {
      waiting = c.remove-request.new.self.items;
      outcomes = c.push.new.self.items;
      next = c.self.inside.next;
    } in
    subst (λ (v : QueueValue). Finishes v c.args.index c.args.outcome c.remove-request.result.ticket new) c.self.view_is
    (finishes q c.args.index c.remove-request.result c.args.outcome c.remove-request.new.self.items c.push.new.self.items
    within c.remove-request.ensures.value c.remove-request.ensures.items pushed)
