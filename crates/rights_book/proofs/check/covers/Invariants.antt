use Rattle.std.proofs.Common.{◌≡◌, ◌+◌, ◌*◌, ◌≤◌, drop}
use Rattle.rights_types.specs.Rights.{covers}
use Rattle.rights_book.proofs.check.covers.Given as goal

abbrev pub invariant-loop-m : goal.invariant-loop-m
invariant-loop-m l = record {
  covered : covers l.left (drop l.m-index l.moves) ≡ covers l.rights l.moves;
  bound : l.left ≤ l.rights + l.m-index * 1000000000000000000;
}
