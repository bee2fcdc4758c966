use Rattle.std.proofs.Common.{◌≡◌}
use Rattle.thread_parts.proofs.ends.Inlet.send.Given as goal

-- the item is still to be put
abbrev pub invariant-loop : goal.invariant-loop
invariant-loop g l = (l.item ≡ l.fn.item) × (l.self ≡ l.initial.self)
