use Rattle.std.proofs.Common.{◌≤◌, length, arith}
use Rattle.inbound.proofs.InboundLaws.{inbound_after, entries_come}
use Rattle.inbound.proofs.inbound.Inbound.take_any_entries.Goals as goal

pub arrive_all-requires-clause-of_origin : goal.arrive_all-requires-clause-of_origin
arrive_all-requires-clause-of_origin g c = rw (← c.self.view_is) at c.requires.origin

pub invariant_of-self : goal.invariant_of-self
invariant_of-self g c =
    inbound_after _ _ _ _ _ c.self.invariant c.arrive_all.ensures.arrive c.arrive_all.ensures.settled

pub returns-clause-ok : goal.returns-clause-ok
returns-clause-ok g c =
    let few : length c.arrive_all.new.verdicts.items ≤ 94
    = omega (arith, c.arrive_all.new.verdicts.ok, c.arrive_all.ensures.capacity, c.in_ok-verdicts.ensures.exact) in
    let come = rw c.in_ok-verdicts.ensures.items at c.arrive_all.ensures.arrive in
    rw (← c.self.view_is) (entries_come _ c.args.entries.items _ _ come few)
