use Rattle.std.proofs.Common.{◌+◌, ◌≤◌, ◌++◌, ℕ, List, length, take, ap, sym, subst, ◌∙◌}
use Rattle.entry_codec.proofs.Behind.{entry_text_is, answer_text_is}
use Rattle.entry_codec.proofs.writing.put_message.Goals as goal

pub put_entry-requires : goal.put_entry-requires
put_entry-requires g c =
    let room = rw c.in-Push.is at c.requires in
    subst (λ (t : List ℕ). c.args.at + length t ≤ length c.args.buffer.now) (entry_text_is c.in-Push.entry) room

pub put_answer-requires : goal.put_answer-requires
put_answer-requires g c =
    let room = rw c.in-Answer.is at c.requires in
    subst (λ (t : List ℕ). c.args.at + length t ≤ length c.args.buffer.now) (answer_text_is c.in-Answer.answer) room

pub returns-in-Push-clause-end : goal.returns-in-Push-clause-end
returns-in-Push-clause-end g c
    = rw c.in-Push.is (c.put_entry.ensures.end
    ∙ ap (λ (t : List ℕ). c.args.at + length t) (sym (entry_text_is c.in-Push.entry)))

pub returns-in-Push-clause-text : goal.returns-in-Push-clause-text
returns-in-Push-clause-text g c =
    rw c.in-Push.is (c.put_entry.ensures.text
    ∙ ap (λ (t : List ℕ). take c.args.at c.args.buffer.now ++ t) (sym (entry_text_is c.in-Push.entry)))

pub returns-in-Answer-clause-end : goal.returns-in-Answer-clause-end
returns-in-Answer-clause-end g c
    = rw c.in-Answer.is (c.put_answer.ensures.end
    ∙ ap (λ (t : List ℕ). c.args.at + length t) (sym (answer_text_is c.in-Answer.answer)))

pub returns-in-Answer-clause-text : goal.returns-in-Answer-clause-text
returns-in-Answer-clause-text g c =
    rw c.in-Answer.is (c.put_answer.ensures.text
    ∙ ap (λ (t : List ℕ). take c.args.at c.args.buffer.now ++ t) (sym (answer_text_is c.in-Answer.answer)))
