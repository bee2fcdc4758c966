use Rattle.std.proofs.Common.{◌≡◌, ◌+◌, ◌≤◌, List, length}
use Rattle.request_queue.specs.declared.request.Request.{Request}
use Rattle.request_queue.specs.declared.queue.TheConstants.{SLOTS}
use Rattle.site_node.proofs.Serving.{FromStart}
use Rattle.site_node.proofs.tick.serve_all.Given as goal

-- these were served so far, and with those that wait they are no more than the slots
abbrev pub invariant-requests : goal.invariant-requests
invariant-requests g l =
    (so_far : List Request) × FromStart l.initial.kept l.initial.seat so_far l.kept l.seat × (l.count ≡ length so_far)
    × (l.count + length l.kept.desk.queue.waiting ≤ SLOTS)

-- each serve leaves one fewer waiting
abbrev pub decreases-requests : goal.decreases-requests
decreases-requests g l = length l.kept.desk.queue.waiting
