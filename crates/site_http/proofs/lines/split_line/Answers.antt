use Rattle.std.proofs.lemmas.List.{take_rest}
use Rattle.site_http.proofs.FirstLine.{lines_cut, lines_uncut, not_none}
use Rattle.site_http.proofs.lines.split_line.Goals as goal

pub returns-in-Some-clause-first : goal.returns-in-Some-clause-first
returns-in-Some-clause-first c = rw take_rest (lines_cut c.args.lines.now c.in-Some.at c.in-Some.ensures)

pub returns-in-None-clause-first : goal.returns-in-None-clause-first
returns-in-None-clause-first c
    = lines_uncut c.args.lines.now (not_none _ _ c.is_empty.ensures c.if-is_empty.false) c.in-None.ensures
