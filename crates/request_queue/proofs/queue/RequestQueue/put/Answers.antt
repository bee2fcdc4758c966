use Rattle.std.proofs.Common.{◌≤◌, arith}
use Rattle.rights_types.specs.Ranges.{IsAmount}
use Rattle.request_queue.specs.Queues.{QueueValue, used}
use Rattle.request_queue.proofs.Keeps.{keeps_put}
use Rattle.request_queue.proofs.queue.RequestQueue.put.Goals as goal

pub invariant_of-self : goal.invariant_of-self
invariant_of-self g c =
    let q : QueueValue = record {
      waiting = c.self.inside.waiting.items;
      outcomes = c.self.inside.outcomes.items;
      next = c.self.inside.next;
    } in
    let pushed = rw c.unwrap.ensures at c.push.ensures.items in
    let ok = c.in-Ok.ensures.ok in
    let good : IsAmount c.in-Ok.amount = (omega (arith, ok.0.0, ok.1), omega (arith, ok.0.1, ok.1)) in
    let room : used q ≤ 31 = omega (
      arith,
      c.self.inside.waiting.ok.0,
      c.self.inside.outcomes.ok.0,
      c.len.ensures,
      c.len-2.ensures,
      c.if-len-ge-SLOTS.false,
    ) in (
      rw pushed (keeps_put q c.in-Ok.amount c.args.deadline c.self.invariant.0 good room
          c.if-self-gt-LAST_TICKET.false),
      omega (arith, c.push.ensures.capacity, c.self.invariant.1),
      c.self.invariant.2,
    )
