use Rattle.std.proofs.Common.{◌∙◌, refl}
use Rattle.std.proofs.lemmas.Result.{on_ok_weaker}
use Rattle.transfer_world.proofs.script.answers.answer_line.Goals as goal

pub returns-clause-ok : goal.returns-clause-ok
returns-clause-ok g c =
    let answer = c.in_ok-answer.ensures.ok in
    on_ok_weaker c.finish.result (λ ended line given. (
      answer.0,
      rw (c.in_ok-command.ensures.means line given) at answer.1,
      record {
        whole = ended.whole ∙ rw (c.in_ok-answer.ensures.kept, answer.2, c.requires.ready) refl;
        part = ended.part;
      },
    )) c.finish.ensures.ok
