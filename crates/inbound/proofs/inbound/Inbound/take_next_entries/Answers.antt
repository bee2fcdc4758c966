use Rattle.std.proofs.Common.{◌≤◌, length, arith}
use Rattle.inbound.proofs.InboundLaws.{inbound_after, entries_come}
use Rattle.inbound.proofs.inbound.Inbound.take_next_entries.Goals as goal

pub arrive_in_order-requires-clause-next : goal.arrive_in_order-requires-clause-next
arrive_in_order-requires-clause-next g c = rw (← c.self.view_is) at c.requires.next

pub invariant_of-self : goal.invariant_of-self
invariant_of-self g c =
    inbound_after _ _ _ _ _ c.self.invariant c.arrive_in_order.ensures.arrive c.arrive_in_order.ensures.settled

pub returns-clause-ok : goal.returns-clause-ok
returns-clause-ok g c =
    let few : length c.arrive_in_order.new.verdicts.items ≤ 94
    = omega (
      arith,
      c.arrive_in_order.new.verdicts.ok,
      c.arrive_in_order.ensures.capacity,
      c.in_ok-verdicts.ensures.exact,
      c.requires.few,
    ) in
    let come = rw c.in_ok-verdicts.ensures.items at c.arrive_in_order.ensures.arrive in
    rw (← c.self.view_is) (entries_come _ c.args.entries.items _ _ come few)
