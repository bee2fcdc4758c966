use Rattle.site_core.proofs.AskLaws.{asks_changed}
use Rattle.site_core.proofs.desk.Desk.deny.Goals as goal

pub invariant_of-self : goal.invariant_of-self
invariant_of-self g c = asks_changed _ c.note_answer.new.self c.self.invariant c.note_answer.ensures.same
    c.note_answer.ensures.answered
