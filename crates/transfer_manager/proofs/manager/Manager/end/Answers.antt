use Rattle.std.proofs.Common.{arith}
use Rattle.transfer_manager.proofs.ManagerLaws.{ended_set, ended_is}
use Rattle.transfer_manager.proofs.AnswerLaws.{ended_answered}
use Rattle.transfer_manager.proofs.manager.Manager.end.Goals as goal

pub invariant_of-self : goal.invariant_of-self
invariant_of-self c =
    let high = rw (← c.self.view_is) at c.requires in
    let same = ended_set c.self.inside.me _ _ _ _ _ _ _ c.index.ensures.value high c.end.ensures in
    (ended_is _ _ _ _ same c.self.invariant.0 (omega (arith, c.index.ensures.value)) high, c.self.invariant.1)

pub returns-clause-ended : goal.returns-clause-ended
returns-clause-ended c =
    rw (← c.self.view_is) (ended_set c.self.inside.me _ _ _ _ _ _ _ c.index.ensures.value
    (rw (← c.self.view_is) at c.requires) c.end.ensures)

pub returns-clause-answered : goal.returns-clause-answered
returns-clause-answered c =
    let high = rw (← c.self.view_is) at c.requires in
    let same = ended_set c.self.inside.me _ _ _ _ _ _ _ c.index.ensures.value high c.end.ensures in
    rw (← c.self.view_is) (ended_answered _ _ _ c.args.ask same (omega (arith, c.index.ensures.value)) high)
