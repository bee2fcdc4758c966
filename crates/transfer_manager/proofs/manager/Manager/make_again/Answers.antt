use Rattle.std.proofs.Common.{◌∙◌, sym, arith}
use Rattle.transfer_manager.proofs.ManagerLaws.{asked_set, asked_is}
use Rattle.transfer_manager.proofs.AnswerLaws.{asked_answered}
use Rattle.transfer_manager.proofs.manager.Manager.make_again.Goals as goal

pub invariant_of-self : goal.invariant_of-self
invariant_of-self c =
    let high = rw (← c.self.view_is) at c.requires.site in
    let at = c.index.ensures.value ∙ c.asked.ensures.value in
    let same = asked_set c.self.inside.me _ _ _ _ _ _ _ _ at high c.ask-2.ensures c.amount-2.ensures.value in
    let mine = rw (← c.self.view_is) at c.requires.mine in
    let next = rw (← c.self.view_is) at c.requires.next in
    let valid = c.ask.ensures.valid in (
      asked_is _ _ _ _ same c.self.invariant.0 (omega (arith, at)) high (λ e. valid.differ (e ∙ sym mine)) valid.amount
          (omega (arith, valid.ask, next)),
      c.self.invariant.1,
    )

pub returns-clause-made : goal.returns-clause-made
returns-clause-made c =
    let high = rw (← c.self.view_is) at c.requires.site in
    let at = c.index.ensures.value ∙ c.asked.ensures.value in
    rw (← c.self.view_is) (asked_set c.self.inside.me _ _ _ _ _ _ _ _ at high c.ask-2.ensures
    c.amount-2.ensures.value)

pub returns-clause-answered : goal.returns-clause-answered
returns-clause-answered c =
    let high = rw (← c.self.view_is) at c.requires.site in
    let at = c.index.ensures.value ∙ c.asked.ensures.value in
    let same = asked_set c.self.inside.me _ _ _ _ _ _ _ _ at high c.ask-2.ensures c.amount-2.ensures.value in
    rw (← c.self.view_is) (asked_answered _ _ _ _ same (omega (arith, at)) high)
