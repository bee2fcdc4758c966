use Rattle.std.proofs.Common.{◌≡◌, ℕ, List, Some, None, position, arith, refl, sym, ap, ◌∙◌, subst}
use Rattle.request_queue.specs.Queues.{QueueValue, outcome_of, has_ticket}
use Rattle.request_queue.specs.Calls.{TellsOutcome}
use Rattle.request_queue.specs.declared.request.Outcome.{Outcome}
use Rattle.request_queue.proofs.Lists.{index_in, first_that}
use Rattle.request_queue.proofs.Keeps.{keeps_read}
use Rattle.request_queue.proofs.Reading.{is_of, outcome_found, outcome_read, outcome_none}
use Rattle.request_queue.proofs.queue.RequestQueue.status.Goals as goal
use Rattle.request_queue.proofs.queue.RequestQueue.status.Goals.{in-Spent, in-Expired, then-has_ticket, else-has_ticket}

pub invariant_of-self : goal.invariant_of-self
invariant_of-self g c =
    let q : QueueValue = record {
      waiting = c.self.inside.waiting.items;
      outcomes = c.self.inside.outcomes.items;
      next = c.self.inside.next;
    } in
    let found : position (is_of c.args.ticket) q.outcomes ≡ Some c.in-Some.index
    = index_in (is_of c.args.ticket) c.deref.result.now q.outcomes (Some c.in-Some.index) c.deref.ensures.value
    c.in-Some.ensures in
    let at = c.remove-outcome.ensures.value in
    let within = (first_that (is_of c.args.ticket) q.outcomes c.in-Some.index c.remove-outcome.result found
    at).within in (
      rw c.remove-outcome.ensures.items
          (keeps_read q c.in-Some.index c.remove-outcome.result c.self.invariant.0 within at),
      c.self.invariant.1,
      omega (arith, c.remove-outcome.ensures.capacity, c.self.invariant.2),
    )

pub returns-in-Some : goal.returns-in-Some
returns-in-Some g c =
    let q : QueueValue = record {
      waiting = c.self.inside.waiting.items;
      outcomes = c.self.inside.outcomes.items;
      next = c.self.inside.next;
    } in
    let new : QueueValue = record {
      waiting = c.self.inside.waiting.items;
      outcomes = c.remove-outcome.new.self.items;
      next = c.self.inside.next;
    } in
    let t = c.args.ticket in
    let i = c.in-Some.index in
    let e = c.remove-outcome.result in
    let at = c.remove-outcome.ensures.value in
    let found : position (is_of t) q.outcomes ≡ Some i
    = index_in (is_of t) c.deref.result.now q.outcomes (Some i) c.deref.ensures.value c.in-Some.ensures in
    let known : outcome_of q t ≡ Some e.1 = outcome_found q t i e found at in
    let left = ap (λ (os : List (ℕ × Outcome)). record { waiting = q.waiting; outcomes = os; next = q.next })
    c.remove-outcome.ensures.items ∙ outcome_read q t i e c.self.invariant.0 found at in
    subst (λ (v : QueueValue). TellsOutcome v t c.match-outcome.result new) c.self.view_is
    (elim c.match-outcome.branch [
      | in-Spent w ↦ rw w.result-is (known ∙ ap (λ (o : Outcome). Some o) w.in-Spent.is, left)
      | in-Expired w ↦ rw w.result-is (known ∙ ap (λ (o : Outcome). Some o) w.in-Expired.is, left)
    ])

pub returns : goal.returns
returns g c =
    let q : QueueValue = record {
      waiting = c.self.inside.waiting.items;
      outcomes = c.self.inside.outcomes.items;
      next = c.self.inside.next;
    } in
    let t = c.args.ticket in
    let missing : position (is_of t) q.outcomes ≡ None
    = index_in (is_of t) c.deref.result.now q.outcomes None c.deref.ensures.value c.in_default.ensures in
    let none = outcome_none q t missing in
    let waits : has_ticket t q.waiting ≡ c.has_ticket.result
    = sym (c.has_ticket.ensures ∙ ap (has_ticket t) c.deref-2.ensures.value) in
    subst (λ (v : QueueValue). TellsOutcome v t c.if-has_ticket.result v) c.self.view_is
    (elim c.if-has_ticket.branch [
      | then-has_ticket w ↦ rw w.result-is (none, waits ∙ w.if-has_ticket.true, refl)
      | else-has_ticket w ↦ rw w.result-is (none, waits ∙ w.if-has_ticket.false, refl)
    ])
