use Rattle.inbound.proofs.InboundLaws.{gap_by_log}
use Rattle.inbound.proofs.inbound.Inbound.state.Goals as goal

pub returns-clause-log : goal.returns-clause-log
returns-clause-log g c = rw (← c.self.view_is) (λ es set put f.
    let t = c.state.ensures.table in
    (t.0, gap_by_log c.self.inside.buffer t.0 c.self.invariant.settled t.1 es set put f, t.2))
