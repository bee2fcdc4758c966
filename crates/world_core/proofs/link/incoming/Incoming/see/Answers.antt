use Rattle.std.proofs.Common.{sym, ◌∙◌}
use Rattle.world_core.proofs.link.incoming.Incoming.see.Goals as goal

pub returns-then-reaches-clause-seen : goal.returns-then-reaches-clause-seen
returns-then-reaches-clause-seen g c v rest e is seen =
    seen ∙ sym (rw c.if-reaches.true at (c.reaches.ensures v rest c.args.self.now.seen.items e is))

pub returns-else-reaches-clause-seen : goal.returns-else-reaches-clause-seen
returns-else-reaches-clause-seen g c v rest e is seen =
    sym (rw c.if-reaches.false at (c.reaches.ensures v rest c.args.self.now.seen.items e is))
