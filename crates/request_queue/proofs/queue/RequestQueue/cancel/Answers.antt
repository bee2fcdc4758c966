use Rattle.std.proofs.Common.{◌≡◌, false, Some, None, refl, subst, position}
use Rattle.request_queue.specs.Queues.{QueueValue, has_ticket, IsQueue}
use Rattle.request_queue.proofs.Lists.{index_in}
use Rattle.request_queue.proofs.Reading.{is_named, cancelled, unnamed}
use Rattle.request_queue.proofs.queue.RequestQueue.cancel.Goals as goal

pub returns-in_default : goal.returns-in_default
returns-in_default g c =
    let q : QueueValue = record {
      waiting = c.self.inside.waiting.items;
      outcomes = c.self.inside.outcomes.items;
      next = c.self.inside.next;
    } in
    let none : position (is_named c.args.ticket) q.waiting ≡ None
    = index_in (is_named c.args.ticket) c.deref.result.now q.waiting None c.deref.ensures.value
    c.in_default.ensures in
    let missing = subst (λ (v : QueueValue). has_ticket c.args.ticket v.waiting ≡ false) c.self.view_is
    (unnamed q c.args.ticket none) in
    record { cancels = (missing, refl); unread = λ h. absurd cc; gone = missing }

pub returns : goal.returns
returns g c =
    let q : QueueValue = record {
      waiting = c.self.inside.waiting.items;
      outcomes = c.self.inside.outcomes.items;
      next = c.self.inside.next;
    } in
    let there : position (is_named c.args.ticket) q.waiting ≡ Some c.in-Some.index
    = index_in (is_named c.args.ticket) c.deref.result.now q.waiting (Some c.in-Some.index) c.deref.ensures.value
    c.in-Some.ensures in
    let found = subst (λ (v : QueueValue). position (is_named c.args.ticket) v.waiting ≡ Some c.in-Some.index)
    c.self.view_is there in
    let valid = subst IsQueue c.self.view_is c.self.invariant.0 in
    let is = cancelled c.args.self.now c.args.ticket c.in-Some.index c.finish.result c.finish.new.self valid found
    c.finish.ensures in
    record { cancels = is.cancels; unread = λ h. is.unread; gone = is.gone }
