use Rattle.std.proofs.Common.{◌∙◌, arith}
use Rattle.request_queue.specs.Queues.{total_of}
use Rattle.transfer_manager.specs.SiteSets.{has_site}
use Rattle.transfer_manager.specs.Plans.{of_book, beside}
use Rattle.transfer_manager.proofs.PlanLaws.{is_opened, front_bounded, front_left, opened_plans, planned_few}
use Rattle.transfer_manager.proofs.PlanLaws.{planned_is, plans_same, by_logs, by_logs_beside}
use Rattle.transfer_manager.proofs.PlanLaws.{front_written}
use Rattle.transfer_manager.proofs.AnswerLaws.{planned_answered}
use Rattle.transfer_manager.proofs.manager.Manager.plan_beside.Goals as goal

pub ask_each-requires-clause-bounded : goal.ask_each-requires-clause-bounded
ask_each-requires-clause-bounded g c =
    let rights = c.eligible_rights-rights.ensures in
    let begun = is_opened _ (beside (has_site c.args.silent.now) (of_book c.args.book.now)) _ _ c.self.invariant.0 c.end_closed.auto.peers
    c.end_closed.ensures rights.whole rights.each in
    rw c.end_closed.auto.peers (front_bounded _ _ _ _ 1000000017000000000000000000 begun rights.bounded)

pub ask_each-requires-clause-numbers : goal.ask_each-requires-clause-numbers
ask_each-requires-clause-numbers g c =
    let rights = c.eligible_rights-rights.ensures in
    let begun = is_opened _ (beside (has_site c.args.silent.now) (of_book c.args.book.now)) _ _ c.self.invariant.0 c.end_closed.auto.peers
    c.end_closed.ensures rights.whole rights.each in
    rw c.end_closed.auto.peers (front_left _ _ _ _ begun)

pub invariant_of-self : goal.invariant_of-self
invariant_of-self g c =
    let rights = c.eligible_rights-rights.ensures in
    let begun = is_opened _ (beside (has_site c.args.silent.now) (of_book c.args.book.now)) _ _ c.self.invariant.0 c.end_closed.auto.peers
    c.end_closed.ensures rights.whole rights.each in
    let made = opened_plans _ _ (total_of c.args.queue.now.waiting) _ _ _ _ _ begun c.ask_each.auto.peers
    c.need-need.ensures.value c.ask_each.ensures.each c.ask_each.ensures.count in
    let written = front_written c.self.inside.sites c.self.inside.peers c.ask_each.new.peers
    (omega (arith, c.self.ranges)) c.self.invariant.1 (c.ask_each.auto.peers ∙ c.end_closed.auto.peers) in
    (rw written (planned_is _ _ _ _ _ c.self.invariant.0 made), c.self.invariant.1)

pub returns : goal.returns
returns g c =
    let rights = c.eligible_rights-rights.ensures in
    let begun = is_opened _ (beside (has_site c.args.silent.now) (of_book c.args.book.now)) _ _ c.self.invariant.0 c.end_closed.auto.peers
    c.end_closed.ensures rights.whole rights.each in
    let made = opened_plans _ _ (total_of c.args.queue.now.waiting) _ _ _ _ _ begun c.ask_each.auto.peers
    c.need-need.ensures.value c.ask_each.ensures.each c.ask_each.ensures.count in
    let written = front_written c.self.inside.sites c.self.inside.peers c.ask_each.new.peers
    (omega (arith, c.self.ranges)) c.self.invariant.1 (c.ask_each.auto.peers ∙ c.end_closed.auto.peers) in
    rw (← c.self.view_is, written) (record {
      plans = made;
      plans_by_logs = λ log applied s count.
          plans_same _ _ _ _ _ _ (by_logs_beside (has_site c.args.silent.now) _ _ _
          (by_logs c.args.book.now log applied _ c.need-need.ensures.valid s count)) made;
      answered = planned_answered _ _ _ _ _ made;
      range = planned_few _ _ _ _ _ c.self.invariant.0 made;
      valid = c.need-need.ensures.valid;
    })
