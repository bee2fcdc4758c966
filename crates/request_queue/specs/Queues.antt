-- A queue: the requests that wait, in order, and a finite map from tickets to unread outcomes.
use Rattle.std.specs.Prelude.{ℕ, ◌+◌, ◌<◌, ◌≤◌, Bool, not, nat_lt, ◌==◌, List, [], ◌∷◌, ◌++◌, length, map, count_by}
use Rattle.std.specs.Prelude.{Option, Some, None, max, min}
use Rattle.std.specs.List.{All, filter, list_any, sum_by}
use Rattle.std.specs.Map.{lookup}
use Rattle.rights_types.specs.Ranges.{IsAmount}
use Rattle.request_queue.specs.declared.queue.TheConstants.{SLOTS, LAST_TICKET}
use Rattle.request_queue.specs.declared.request.Request.{Request}
use Rattle.request_queue.specs.declared.request.Outcome.{Outcome}

-- the waiting requests, the unread outcomes by their tickets, and the next ticket
pub record QueueValue : Type 0 where
  pub waiting : List Request
  pub outcomes : List (ℕ × Outcome)
  pub next : ℕ

abbrev pub no_requests : QueueValue
no_requests = record { waiting = []; outcomes = []; next = 1 }

-- ticket, amount and deadline of the request at the front
abbrev pub front_of : List Request → Option (ℕ × ℕ × ℕ)
front_of [] = None
front_of (r ∷ _) = Some (r.ticket, r.amount, r.deadline)

-- the sum of the amounts of these requests
abbrev pub total_of : List Request → ℕ
total_of requests = sum_by (λ (r : Request). r.amount) requests

-- one of these requests has the ticket t
abbrev pub has_ticket : ℕ → List Request → Bool
has_ticket t requests = list_any (λ (r : Request). r.ticket == t) requests

-- the unread outcome of this ticket
abbrev pub outcome_of : QueueValue → ℕ → Option Outcome
outcome_of q t = lookup (λ k. k == t) q.outcomes

-- the request's deadline has passed at this time
abbrev pub is_late : ℕ → Request → Bool
is_late now r = nat_lt r.deadline now

-- how many slots are taken
abbrev pub used : QueueValue → ℕ
used q = length q.waiting + length q.outcomes

-- with one more request at the back, under the next ticket
abbrev pub with_request : QueueValue → ℕ → ℕ → QueueValue
with_request q amount deadline =
    record {
      waiting = q.waiting ++ record { ticket = q.next; amount = amount; deadline = deadline } ∷ [];
      outcomes = q.outcomes;
      next = q.next + 1;
    }

-- this request ended with this outcome, and the others wait
abbrev pub settled : QueueValue → List Request → Request → Outcome → QueueValue
settled q others r outcome
    = record { waiting = others; outcomes = q.outcomes ++ (r.ticket, outcome) ∷ []; next = q.next }

-- the queue once the outcome of this ticket was read
abbrev pub without : QueueValue → ℕ → QueueValue
without q t = record {
  waiting = q.waiting;
  outcomes = filter (λ (e : ℕ × Outcome). not (e.0 == t)) q.outcomes;
  next = q.next;
}

-- the queue that gives out no ticket up to this one
abbrev pub without_tickets : QueueValue → ℕ → QueueValue
without_tickets q t = record q { next = max q.next (min t LAST_TICKET + 1) }

-- the tickets of what takes up a slot
abbrev pub tickets : QueueValue → List ℕ
tickets q = map (λ (r : Request). r.ticket) q.waiting ++ map (λ (e : ℕ × Outcome). e.0) q.outcomes

-- a queue within its limits; no ticket occurs twice
pub record IsQueue (q : QueueValue) : Type 0 where
  pub slots : used q ≤ SLOTS
  pub amounts : All (λ (r : Request). IsAmount r.amount) q.waiting
  pub first : 1 ≤ q.next
  pub last : q.next ≤ LAST_TICKET + 1
  pub given : All (λ t. (1 ≤ t) × (t < q.next)) (tickets q)
  pub once : (t : ℕ) → count_by (λ k. k == t) (tickets q) ≤ 1
