use Rattle.std.proofs.Common.{refl}
use Rattle.inbound.proofs.InboundLaws.{query_of}
use Rattle.inbound.proofs.inbound.Inbound.query.Goals as goal

pub returns-then-again : goal.returns-then-again
returns-then-again g c =
    let t = c.want_again.ensures.table in
    rw (c.if-again.true, ← c.self.view_is)
    (query_of _ _ c.want_again.result c.want_again.result c.want_again.new.self c.self.invariant.settled
    t.0 refl t.1)

pub returns-else-again : goal.returns-else-again
returns-else-again g c =
    let t = c.want.ensures.table in
    rw (c.if-again.false, ← c.self.view_is)
    (query_of _ _ t.0 c.want.result c.want.new.self c.self.invariant.settled t.1 t.2 t.3)
