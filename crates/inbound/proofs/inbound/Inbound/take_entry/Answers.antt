use Rattle.std.proofs.Common.{◌≤◌, length, arith}
use Rattle.inbound.proofs.InboundLaws.{entry_comes}
use Rattle.inbound.proofs.inbound.Inbound.take_entry.Goals as goal

pub returns-clause-ok : goal.returns-clause-ok
returns-clause-ok g c =
    let a = c.arrive.ensures.arrives in
    let few : length c.arrive.new.verdicts.items ≤ 94
    = omega (arith, c.arrive.new.verdicts.ok, c.arrive.ensures.capacity, c.in_ok-verdicts.ensures.exact) in
    rw (← c.self.view_is) (entry_comes _ c.args.entry _ _ c.arrive.new.verdicts.items a.0 a.1
    c.in_ok-verdicts.ensures.items a.2 a.3 few)
