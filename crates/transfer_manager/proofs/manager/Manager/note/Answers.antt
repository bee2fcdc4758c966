use Rattle.std.proofs.Common.{◌∙◌, arith}
use Rattle.transfer_manager.proofs.ManagerLaws.{answered_set, answered_is}
use Rattle.transfer_manager.proofs.AnswerLaws.{noted_answered}
use Rattle.transfer_manager.proofs.manager.Manager.note.Goals as goal

pub invariant_of-self : goal.invariant_of-self
invariant_of-self c =
    let high = rw (← c.self.view_is) at c.requires.site in
    let at = c.index.ensures.value ∙ c.asker.ensures.value in
    let same = answered_set c.self.inside.me _ _ _ _ _ _ _ _ at high (c.value-asks.ensures.value
    ∙ c.ask.ensures.value) in
    (answered_is _ _ _ _ _ same c.self.invariant.0 (omega (arith, at)) high, c.self.invariant.1)

pub returns-clause-noted : goal.returns-clause-noted
returns-clause-noted c =
    let high = rw (← c.self.view_is) at c.requires.site in
    let at = c.index.ensures.value ∙ c.asker.ensures.value in
    rw (← c.self.view_is) (answered_set c.self.inside.me _ _ _ _ _ _ _ _ at high (c.value-asks.ensures.value
    ∙ c.ask.ensures.value))

pub returns-clause-answered : goal.returns-clause-answered
returns-clause-answered c =
    let high = rw (← c.self.view_is) at c.requires.site in
    let at = c.index.ensures.value ∙ c.asker.ensures.value in
    let same = answered_set c.self.inside.me _ _ _ _ _ _ _ _ at high (c.value-asks.ensures.value
    ∙ c.ask.ensures.value) in
    rw (← c.self.view_is) (noted_answered _ _ c.args.ask.now _ same (omega (arith, at)) high
    (rw (← c.self.view_is) at c.requires.new))
