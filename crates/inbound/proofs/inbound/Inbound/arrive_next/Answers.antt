use Rattle.std.proofs.Common.{[], subst}
use Rattle.sub_buffer.specs.Arrivals.{Arrives as IsArrival}
use Rattle.sub_buffer.specs.declared.verdict.Verdict.TheVariants.{Ready}
use Rattle.inbound.specs.Inbounds.{InboundValue}
use Rattle.inbound.proofs.inbound.Inbound.arrive_next.Goals as goal

pub returns-clause-arrives : goal.returns-clause-arrives
returns-clause-arrives g c t =
    let e = c.args.entry.now in
    subst (λ (i : InboundValue). IsArrival {A = g.row.A.Denot} i.buffer e (Ready e) [] c.arrive_next.new.self)
    c.self.view_is (c.arrive_next.ensures.arrives t)
