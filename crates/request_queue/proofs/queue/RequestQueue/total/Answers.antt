use Rattle.std.proofs.Common.{◌≤◌, length, ap, ◌∙◌, arith}
use Rattle.request_queue.specs.Queues.{total_of}
use Rattle.request_queue.proofs.Reading.{total_small}
use Rattle.request_queue.proofs.queue.RequestQueue.total.Goals as goal

pub returns-clause-range : goal.returns-clause-range
returns-clause-range g c =
    let few : length c.self.inside.waiting.items ≤ 32 = omega (arith, c.self.invariant.0.slots) in
    let sum = c.total_amount.ensures ∙ ap total_of c.deref.ensures.value in
    omega (arith, sum, total_small c.self.inside.waiting.items c.self.invariant.0.amounts few)
