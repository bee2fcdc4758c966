-- The effect of cancelling a request, and of the report of its outcome.
use Rattle.std.proofs.Common.{◌≡◌, ℕ, Bool, true, false, List, [], ◌∷◌, ◌++◌, ap, sym, ◌∙◌}
use Rattle.request_queue.specs.declared.request.Request.{Request}
use Rattle.request_queue.specs.declared.request.Status.{Status}
use Rattle.request_queue.specs.declared.request.Status.TheVariants.{Waiting, Spent as SaysSpent, Expired as SaysExpired}
use Rattle.request_queue.specs.declared.request.Status.TheVariants.{Unknown}
use Rattle.request_queue.specs.Queues.{QueueValue, has_ticket}
use Rattle.request_queue.specs.Calls.{Cancels, TellsOutcome}

-- a report changes nothing of what waits
told_waits : (old : QueueValue) (t : ℕ) (status : Status) (new : QueueValue) → TellsOutcome old t status new
    → new.waiting ≡ old.waiting
told_waits old t Waiting new h = ap (λ (q : QueueValue). q.waiting) h.2
told_waits old t (SaysSpent n) new h = ap (λ (q : QueueValue). q.waiting) h.1
told_waits old t SaysExpired new h = ap (λ (q : QueueValue). q.waiting) h.1
told_waits old t Unknown new h = ap (λ (q : QueueValue). q.waiting) h.2

no_middle : (before : List Request) (r : Request) (after : List Request) → [] ≡ before ++ r ∷ after → ⊥
no_middle [] r after h = absurd cc
no_middle (x ∷ xs) r after h = absurd cc

cancelled_none : (old : QueueValue) (t : ℕ) (waited : Bool) (new : QueueValue) → Cancels old t waited new
    → old.waiting ≡ [] → new.waiting ≡ []
cancelled_none old t true new h none = absurd (no_middle h.before h.request h.after (sym none ∙ h.found))
cancelled_none old t false new h none = ap (λ (q : QueueValue). q.waiting) h.1 ∙ none

-- where nothing waited, nothing waits
pub none_left : (old between new : QueueValue) (t : ℕ) (waited : Bool) (status : Status)
    → Cancels old t waited between → TellsOutcome between t status new
    → old.waiting ≡ [] → new.waiting ≡ []
none_left old between new t waited status cancels tells none =
    told_waits between t status new tells ∙ cancelled_none old t waited between cancels none

-- a ticket of no request that waits is not reported to wait
pub told_decided : (old : QueueValue) (t : ℕ) (status : Status) (new : QueueValue) → TellsOutcome old t status new
    → has_ticket t old.waiting ≡ false → status ≡ Waiting → ⊥
told_decided old t Waiting new h gone e = absurd cc
told_decided old t (SaysSpent n) new h gone e = absurd cc
told_decided old t SaysExpired new h gone e = absurd cc
told_decided old t Unknown new h gone e = absurd cc
