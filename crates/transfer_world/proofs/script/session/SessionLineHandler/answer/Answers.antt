use Rattle.transfer_world.proofs.script.session.SessionLineHandler.answer.Goals as goal

pub returns-clause-ok : goal.returns-clause-ok
returns-clause-ok g c = rw (c.self.view_is) at c.in_ok-answer_line.ensures.ok
