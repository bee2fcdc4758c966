use Rattle.std.proofs.Common.{◌≡◌}
use Rattle.thread_parts.proofs.ends.Outlet.receive.Given as goal

abbrev pub invariant-loop : goal.invariant-loop
invariant-loop g l = l.self ≡ l.initial.self
