use Rattle.std.proofs.Common.{false}
use Rattle.site_core.proofs.AskLaws.{asks_changed, planned}
use Rattle.site_core.proofs.desk.Desk.plan.Goals as goal

pub invariant_of-self : goal.invariant_of-self
invariant_of-self g c = asks_changed _ c.plan.new.self c.self.invariant c.plan.ensures.plans.same
    c.plan.ensures.answered

pub returns : goal.returns
returns g c =
    rw (← c.self.view_is) (planned (λ j. false) _ c.book.result.now c.plan.result c.plan.new.self c.self.invariant
    c.book.ensures.valid c.book.ensures.value c.plan.ensures.plans c.plan.ensures.plans_by_logs)
