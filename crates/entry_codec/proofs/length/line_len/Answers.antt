use Rattle.rights_types.specs.Messages.MessageValue.{AnEntry, AnAnswer}
use Rattle.entry_codec.specs.Texts.{entry_text, answer_text}
use Rattle.entry_codec.proofs.Behind.{entry_text_is, answer_text_is, line_length}
use Rattle.entry_codec.proofs.length.line_len.Goals as goal

pub returns-in-Push-clause-value : goal.returns-in-Push-clause-value
returns-in-Push-clause-value g c =
    let e = c.in-Push.entry in
    rw c.in-Push.is (line_length (AnEntry e) (entry_text e) c.entry_len.result
    (entry_text_is e) c.entry_len.ensures.value)

pub returns-in-Answer-clause-value : goal.returns-in-Answer-clause-value
returns-in-Answer-clause-value g c =
    let a = c.in-Answer.answer in
    rw c.in-Answer.is (line_length (AnAnswer a) (answer_text a) c.answer_len.result
    (answer_text_is a) c.answer_len.ensures.value)
