use Rattle.std.proofs.Common.{ℕ, ◌++◌, ◌∙◌, List, ap, sym, arith, rules}
use Rattle.log_lines.proofs.BacklogLaws.{took_line, one_fewer, same_count, wrote_line}
use Rattle.log_lines.specs.Backlogs.{joined}
use Rattle.log_lines.proofs.backlog.Backlog.write_to.Goals as goal

pub lines-preserved : goal.lines-preserved
lines-preserved g c =
    let inv = c.lines.invariant in
    let some = c.in-Some.ensures.some in
    let text = c.as_bytes.result.now in
    let rest = joined c.take.new.self.lines in (
      same_count _ _ _ some ∙ inv.0,
      omega (arith, inv.1, one_fewer _ _ _ some),
      inv.2 ++ text,
      took_line _ inv.2 _ _ _ inv.3 some ∙ ap (λ (t : List ℕ). (inv.2 ++ t) ++ rest) (sym c.as_bytes.ensures.value),
      wrote_line _ _ _ inv.2 text inv.4 (search rules),
    )
