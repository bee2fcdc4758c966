use Rattle.std.proofs.Common.{ℕ, ◌≤◌, length}
use Rattle.command_keys.specs.Keys.{ExpireGone}
use Rattle.command_keys.proofs.keys.Keys.settle.Given as goal

-- so many expired so far
abbrev pub invariant-spends : goal.invariant-spends
invariant-spends g l = ((count : ℕ) × ExpireGone l.requests count l.initial.self l.self)
    × (length l.self.waiting ≤ length l.initial.self.waiting)

-- each of them leaves one fewer waiting
abbrev pub decreases-spends : goal.decreases-spends
decreases-spends g l = length l.self.waiting
