use Rattle.std.proofs.Common.{◌≡◌, ◌+◌, ◌*◌, ◌≤◌, drop}
use Rattle.rights_types.specs.Rights.{back}
use Rattle.parts_tests.proofs.tests.book.calls.taken_back.Given as goal

abbrev pub invariant-loop-m : goal.invariant-loop-m
invariant-loop-m l = record {
  value : l.sum + back l.site (drop l.m-index l.moves) ≡ back l.site l.moves;
  bound : l.sum ≤ l.m-index * 1000000000000000000;
}
