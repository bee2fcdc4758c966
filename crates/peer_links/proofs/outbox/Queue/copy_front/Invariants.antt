use Rattle.std.proofs.Common.{◌≡◌, ◌≤◌, ◌-◌, ◌++◌, length, take, drop}
use Rattle.peer_links.specs.Outboxes.{front_in}
use Rattle.peer_links.specs.Sources.{joined}
use Rattle.peer_links.proofs.outbox.Queue.copy_front.Given as goal

-- the longest prefix that fits is what was copied, and as many of the other lines as fit into the rest
abbrev pub invariant-lines : goal.invariant-lines
invariant-lines g l =
    (length l.room ≡ length l.fn.room) × (l.filled ≤ length l.room) × (l.count ≤ length l.self.lines)
    × (joined (front_in (length l.room) l.self.lines)
    ≡ take l.filled l.room ++ joined (front_in (length l.room - l.filled) (drop l.count l.self.lines)))

abbrev pub decreases-lines : goal.decreases-lines
decreases-lines g l = length l.self.lines - l.count
