use Rattle.std.proofs.Common.{◌+◌, ◌≤◌, ℕ, length}
use Rattle.request_queue.specs.Queues.{QueueValue}
use Rattle.site_core.specs.Calls.{ExpiresLate}
use Rattle.site_core.proofs.desk.requests.expire_late.Given as goal

abbrev pub invariant-loop-ticket : goal.invariant-loop-ticket
invariant-loop-ticket g l = record {
  goes_on : (count : ℕ) (new : QueueValue) → ExpiresLate l.queue l.time count new
      → ExpiresLate l.initial.queue l.time (count + l.count) new;
  few : l.count + length l.queue.waiting ≤ 32;
}

abbrev pub decreases-loop-ticket : goal.decreases-loop-ticket
decreases-loop-ticket g l = length l.queue.waiting
