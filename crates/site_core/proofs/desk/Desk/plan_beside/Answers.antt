use Rattle.transfer_manager.specs.SiteSets.{has_site}
use Rattle.site_core.proofs.AskLaws.{asks_changed, planned}
use Rattle.site_core.proofs.desk.Desk.plan_beside.Goals as goal

pub invariant_of-self : goal.invariant_of-self
invariant_of-self g c = asks_changed _ c.plan_beside.new.self c.self.invariant c.plan_beside.ensures.plans.same
    c.plan_beside.ensures.answered

pub returns : goal.returns
returns g c =
    rw (← c.self.view_is) (planned (has_site c.args.silent.now) _ c.book.result.now c.plan_beside.result c.plan_beside.new.self c.self.invariant
    c.book.ensures.valid c.book.ensures.value c.plan_beside.ensures.plans c.plan_beside.ensures.plans_by_logs)
