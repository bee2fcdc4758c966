use Rattle.std.proofs.Common.{rules, sym, subst}
use Rattle.thread_parts.specs.Items.{Leaves}
use Rattle.thread_parts.proofs.Items.{may_come, leaves}
use Rattle.thread_parts.proofs.ends.Outlet.take_ready.Goals as goal

pub returns-in-Some-clause-some : goal.returns-in-Some-clause-some
returns-in-Some-clause-some g c = search rules

pub returns-in-Some-clause-chain : goal.returns-in-Some-clause-chain
returns-in-Some-clause-chain g c = search rules

pub returns-in-Some-clause-continues : goal.returns-in-Some-clause-continues
returns-in-Some-clause-continues g c = may_come _ _ _ c.in-Some.ensures.some.0 c.receive_ready.ensures.chain c.requires

pub returns-in-Some-clause-next : goal.returns-in-Some-clause-next
returns-in-Some-clause-next g c = subst (Leaves c.in-Some.item) (sym c.in-Some.ensures.some.0) (leaves _ _ c.requires)
