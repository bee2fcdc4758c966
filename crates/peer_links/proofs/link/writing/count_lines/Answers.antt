use Rattle.std.proofs.Common.{◌+◌, take, ◌∙◌, sym, arith}
use Rattle.line_streams.proofs.CountLaws.{line_more, line_none}
use Rattle.line_streams.proofs.CutLaws.{cut_found, cut_none}
use Rattle.peer_links.proofs.link.writing.count_lines.Goals as goal

pub lines-preserved : goal.lines-preserved
lines-preserved c =
    let inv = c.lines.invariant in
    let text = c.args.text.now in
    let cut = cut_found text c.lines.at c.in-Some.length inv.0 c.in-Some.ensures in
    let more = line_more (take c.lines.at text) _ (take (c.lines.at + (c.in-Some.length + 1)) text) cut.1 cut.2 in
    (omega (arith, cut.0), omega (arith, inv.1), omega (arith, inv.2, more))

pub returns-clause-count : goal.returns-clause-count
returns-clause-count c =
    let none = cut_none c.args.text.now c.lines.at c.memchr.result c.in_default.not-Some c.memchr.ensures in
    c.lines.invariant.2 ∙ sym (line_none c.args.text.now c.lines.at none)
