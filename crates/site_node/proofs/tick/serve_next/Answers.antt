use Rattle.site_node.proofs.Serving.{serves_next}
use Rattle.site_node.proofs.tick.serve_next.Goals as goal

pub returns-clause-ok : goal.returns-clause-ok
returns-clause-ok g c =
    let e = rw c.in-Some.is at c.in_ok-ticket.ensures in
    serves_next c.args.kept.now c.serve.new.self c.serve_key.new.self c.args.seat.now c.serve.new.seat c.in-Some.ticket
    c.in-Some.number c.in-Some.amount e.ok e.keeps e.front e.counters e.told c.serve_key.ensures.keys
    c.serve_key.ensures.rest
