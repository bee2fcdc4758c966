use Rattle.site_core.proofs.AskLaws.{asks_changed}
use Rattle.site_core.proofs.desk.Desk.on_deny.Goals as goal

pub invariant_of-self : goal.invariant_of-self
invariant_of-self g c = asks_changed _ c.on_deny.new.self c.self.invariant c.on_deny.ensures.same
    c.on_deny.ensures.answered
