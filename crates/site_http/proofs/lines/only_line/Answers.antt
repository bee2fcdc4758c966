use Rattle.site_http.proofs.FirstLine.{lines_many, not_none}
use Rattle.site_http.proofs.lines.only_line.Goals as goal

pub returns-else-is_empty-clause-other : goal.returns-else-is_empty-clause-other
returns-else-is_empty-clause-other c =
    lines_many c.args.lines.now c.in_ok-text.rest.now _ c.in_ok-text.ensures.first
    (not_none _ _ c.is_empty.ensures c.if-is_empty.false)
