use Rattle.std.proofs.lemmas.Bool.{iff_false}
use Rattle.std.proofs.lemmas.Result.{err_from_is_err_and}
use Rattle.line_streams.proofs.RunLaws.{ends_whole, ends_cut, ends_failed}
use Rattle.line_streams.proofs.lines.Conversation.run_whole.Goals as goal

pub returns-then-is_write_failure-clause-ends : goal.returns-then-is_write_failure-clause-ends
returns-then-is_write_failure-clause-ends g c =
    let ran = c.run-result.ensures.ran in
    let failed = c.is_write_failure.ensures.0 c.if-is_write_failure.true in
    ends_failed g.H.LineHandler.answers g.H.LineHandler.fails _ ran.0 ran.1 _ _ _ _ ran.2 ran.3 _ _
    c.run-result.result failed ran.4

pub returns-in_err-write_to-clause-ends : goal.returns-in_err-write_to-clause-ends
returns-in_err-write_to-clause-ends g c =
    let p = err_from_is_err_and c.from_residual.result c.from_residual.ensures.1 in
    let ran = c.run-result.ensures.ran in
    let part = c.in_err-write_to.ensures.front in
    rw (p.1, p.2) (ends_cut g.H.LineHandler.answers g.H.LineHandler.fails _ ran.0 ran.1 _ _ _ _ _ ran.2 ran.3 _ _
    c.run-result.result part.0 part.1 ran.4
    (iff_false c.is_write_failure.ensures c.if-is_write_failure.false) part.2)

pub returns-clause-ends : goal.returns-clause-ends
returns-clause-ends g c =
    let ran = c.run-result.ensures.ran in
    ends_whole g.H.LineHandler.answers g.H.LineHandler.fails _ ran.0 ran.1 _ _ _ _ _ ran.2 ran.3 _ _ c.run-result.result
    ran.4 (iff_false c.is_write_failure.ensures c.if-is_write_failure.false) c.in_ok-write_to.ensures.whole
