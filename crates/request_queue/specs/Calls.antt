-- What each call of a queue returns and leaves.
use Rattle.std.specs.Prelude.{◌≡◌, ℕ, ◌+◌, ◌<◌, ◌≤◌, Bool, true, false, nat_lt, nat_le, ◌||◌, List, ◌∷◌, ◌++◌, Option, Some, None}
use Rattle.std.specs.Prelude.{Result, Ok, Err, if◌then◌else◌}
use Rattle.std.specs.List.{All, slice_get, remove}
use Rattle.rights_types.specs.declared.limits.TheConstants.{MAX_AMOUNT}
use Rattle.request_queue.specs.declared.queue.TheConstants.{SLOTS, LAST_TICKET}
use Rattle.request_queue.specs.Queues.{QueueValue, outcome_of, has_ticket, total_of, used, with_request}
use Rattle.request_queue.specs.Queues.{settled, without}
use Rattle.request_queue.specs.declared.request.Request.{Request}
use Rattle.request_queue.specs.declared.request.Outcome.{Outcome}
use Rattle.request_queue.specs.declared.request.Outcome.TheVariants.{Spent, Expired}
use Rattle.request_queue.specs.declared.request.Status.{Status}
use Rattle.request_queue.specs.declared.request.Status.TheVariants.{Waiting, Spent as SaysSpent, Expired as SaysExpired}
use Rattle.request_queue.specs.declared.request.Status.TheVariants.{Unknown}
use Rattle.request_queue.specs.declared.fault.QueueError.{QueueError}
use Rattle.request_queue.specs.declared.fault.QueueError.TheVariants.{BadAmount, QueueFull}

-- why a request for this amount is refused
abbrev pub put_fault : QueueValue → ℕ → Option QueueError
put_fault q amount =
    if nat_lt amount 1 || nat_lt MAX_AMOUNT amount then Some BadAmount
    else (if nat_le SLOTS (used q) || nat_lt LAST_TICKET q.next then Some QueueFull
    else None)

abbrev pub Puts : QueueValue → ℕ → ℕ → Result ℕ QueueError → QueueValue → Type 0
Puts old amount deadline (Ok ticket) new =
    (put_fault old amount ≡ None) × (ticket ≡ old.next) × (new ≡ with_request old amount deadline)
Puts old amount deadline (Err fault) new = (put_fault old amount ≡ Some fault) × (new ≡ old)

-- the request at this index, which has this ticket, ended with this outcome
abbrev pub Finishes : QueueValue → ℕ → Outcome → ℕ → QueueValue → Type 0
Finishes old index outcome ticket new =
    (r : Request) × (slice_get old.waiting index ≡ Some r) × (ticket ≡ r.ticket)
    × (new ≡ settled old (remove old.waiting index) r outcome)

-- the front request was served by the log entry of this number
abbrev pub Serves : QueueValue → ℕ → QueueValue → Type 0
Serves old number new =
    (r : Request) × (others : List Request) × (old.waiting ≡ r ∷ others) × (new ≡ settled old others r (Spent number))

-- the first late request expired
abbrev pub Expires : QueueValue → ℕ → Option ℕ → QueueValue → Type 0
Expires old now None new = All (λ (r : Request). now ≤ r.deadline) old.waiting × (new ≡ old)
Expires old now (Some ticket) new =
    (before : List Request) × (r : Request) × (after : List Request) × (old.waiting ≡ before ++ r ∷ after)
    × All (λ (s : Request). now ≤ s.deadline) before × (r.deadline < now) × (ticket ≡ r.ticket)
    × (new ≡ settled old (before ++ after) r Expired)

-- the waiting request of this ticket ended before its deadline
pub record CancelsRequest (old : QueueValue) (t : ℕ) (new : QueueValue) : Type 0 where
  pub request : Request
  pub before : List Request
  pub after : List Request
  pub found : old.waiting ≡ before ++ request ∷ after
  pub ticket : request.ticket ≡ t
  pub ends : new ≡ settled old (before ++ after) request Expired
  pub total : total_of new.waiting + request.amount ≡ total_of old.waiting

-- a request is cancelled if it waits; otherwise nothing changes
abbrev pub Cancels : QueueValue → ℕ → Bool → QueueValue → Type 0
Cancels old t true new = CancelsRequest old t new
Cancels old t false new = (has_ticket t old.waiting ≡ false) × (new ≡ old)

-- an outcome is reported once, and its slot is then free
abbrev pub TellsOutcome : QueueValue → ℕ → Status → QueueValue → Type 0
TellsOutcome old t Waiting new = (outcome_of old t ≡ None) × (has_ticket t old.waiting ≡ true) × (new ≡ old)
TellsOutcome old t (SaysSpent number) new = (outcome_of old t ≡ Some (Spent number)) × (new ≡ without old t)
TellsOutcome old t SaysExpired new = (outcome_of old t ≡ Some Expired) × (new ≡ without old t)
TellsOutcome old t Unknown new = (outcome_of old t ≡ None) × (has_ticket t old.waiting ≡ false) × (new ≡ old)
