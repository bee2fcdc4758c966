use Rattle.std.proofs.Common.{sym, subst, ◌∙◌, arith}
use Rattle.apply_lanes.specs.Kepts.{KeptValue, IsInBalance}
use Rattle.apply_lanes.proofs.StepLaws.{HasProtocol, protocol_of}
use Rattle.apply_lanes.proofs.kept.Kept.desk.Goals as goal

pub returns-clause-balance : goal.returns-clause-balance
returns-clause-balance g c =
    let t = c.self.invariant.matches_book in
    subst (λ (k : KeptValue). IsInBalance k) c.self.view_is (record {
      chain = c.log.ensures.chain;
      issued_is = t.issued_is ∙ sym c.issued.ensures.booked ∙ c.issued.ensures.value;
      spent_is = t.spent_is ∙ sym c.spent.ensures.booked ∙ c.spent.ensures.value;
      number_is = t.number_is;
      received_is = t.received_is ∙ sym c.received.ensures.value ∙ c.received.ensures.sum;
      held_is = omega (arith, c.held.ensures.balance, c.held.ensures.value);
    })

pub returns-clause-protocol : goal.returns-clause-protocol
returns-clause-protocol g c =
    subst (λ (k : KeptValue). HasProtocol g.D.DeskNames.id k) c.self.view_is
    (protocol_of g.D.DeskNames.id _ c.self.invariant)
