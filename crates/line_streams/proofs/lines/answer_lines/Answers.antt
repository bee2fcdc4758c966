use Rattle.std.proofs.lemmas.Result.{err_from_is_err_and}
use Rattle.line_streams.proofs.RunLaws.{nothing_ran}
use Rattle.line_streams.proofs.lines.answer_lines.Goals as goal

pub returns-in_err-buffer-clause-ends : goal.returns-in_err-buffer-clause-ends
returns-in_err-buffer-clause-ends g c =
    let p = err_from_is_err_and c.from_residual.result c.from_residual.ensures.1 in
    rw (p.1, p.2) (nothing_ran g.H.LineHandler.answers g.H.LineHandler.fails _ _ _)

pub returns-in_err-conversation-clause-ends : goal.returns-in_err-conversation-clause-ends
returns-in_err-conversation-clause-ends g c =
    let p = err_from_is_err_and c.from_residual-in_err-conversation.result
    c.from_residual-in_err-conversation.ensures.1 in
    rw (p.1, p.2) (nothing_ran g.H.LineHandler.answers g.H.LineHandler.fails _ _ _)
