use Rattle.std.proofs.Common.{Bool, List, refl, subst}
use Rattle.request_queue.specs.Queues.{total_of}
use Rattle.transfer_manager.specs.SiteSets.{has_site}
use Rattle.transfer_manager.specs.Managers.{sites}
use Rattle.transfer_manager.specs.Plans.{of_book, of_logs, beside, Plans}
use Rattle.transfer_manager.proofs.PlanLaws.{plans_same, beside_nobody}
use Rattle.transfer_manager.proofs.manager.Manager.plan.Goals as goal

pub returns : goal.returns
returns g c =
    let made = c.plan_beside.ensures in
    let m = c.args.self.now in
    let queued = total_of c.args.queue.now.waiting in
    let none = c.new.ensures in record {
      plans = plans_same _ _ _ _ _ _ (beside_nobody (sites m) (of_book c.args.book.now) (λ j. refl))
          (subst (λ (set : List Bool). Plans m (beside (has_site set) (of_book c.args.book.now)) queued
          c.plan_beside.result c.plan_beside.new.self) none made.plans);
      plans_by_logs = λ log applied s count.
          (let k = of_logs (sites m) c.args.book.now.me log applied in
          plans_same _ _ _ _ _ _ (beside_nobody (sites m) k (λ j. refl))
          (subst (λ (set : List Bool). Plans m (beside (has_site set) k) queued
          c.plan_beside.result c.plan_beside.new.self) none (made.plans_by_logs log applied s count)));
      answered = made.answered;
      range = made.range;
    }
