use Rattle.world_core.proofs.IncomingLaws.{lists_nothing, lists_copy}
use Rattle.world_core.proofs.link.incoming.Incoming.list.Goals as goal

pub returns-then-not-reaches-clause-lists : goal.returns-then-not-reaches-clause-lists
returns-then-not-reaches-clause-lists g c v rest e is copied =
    lists_nothing (λ l. l.items) c.args.self.now.apart v e
    (λ set. rw c.if-not-reaches.true at (c.reaches.ensures v rest set e is))

pub returns-in-Some-Some-clause-lists : goal.returns-in-Some-Some-clause-lists
returns-in-Some-Some-clause-lists g c v rest e is copied =
    let reaches = c.reaches.ensures v rest c.in-Some-Some.reached.items e is in
    lists_copy (λ l. l.items) c.args.self.now.apart c.in-Some-Some.reached c.push_reserved.new.self.items
    c.in-Some-Some.copy e c.args.copy v c.in-Some-Some.is-0 c.in-Some-Some.is-1 copied
    c.push_reserved.ensures.items (rw c.if-not-reaches.false at reaches)
