use Rattle.std.proofs.Common.{◌≡◌, ℕ, ◌≤◌, ◌++◌, List, length}
use Rattle.std.specs.Io.KnownBytes.{Appends}
use Rattle.log_lines.specs.Backlogs.{joined}
use Rattle.log_lines.proofs.backlog.Backlog.write_to.Given as goal

-- what was taken is the front of the text, and was written
abbrev pub invariant-lines : goal.invariant-lines
invariant-lines g l =
    (l.self.dropped ≡ l.fn.self.dropped) × (length l.self.lines ≤ length l.fn.self.lines)
    × (front : List ℕ) × (joined l.fn.self.lines ≡ front ++ joined l.self.lines)
    × Appends (g.W.Write.contents l.fn.out) (g.W.Write.contents l.out) front

abbrev pub decreases-lines : goal.decreases-lines
decreases-lines g l = length l.self.lines
