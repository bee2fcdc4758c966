use Rattle.std.proofs.Common.{ℕ, ◌≤◌, ◌-◌}
use Rattle.rights_types.specs.Rights.{back}
use Rattle.rights_book.specs.Books.{peer}
use Rattle.parts_tests.proofs.tests.book.calls.write.Given as goal

abbrev pub invariant-loop-index : goal.invariant-loop-index
invariant-loop-index g l = (j : ℕ) → 1 ≤ j → j ≤ l.index → back j l.moves ≤ (peer l.book j).given - (peer l.book j).back
