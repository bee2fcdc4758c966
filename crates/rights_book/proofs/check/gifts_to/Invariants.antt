use Rattle.std.proofs.Common.{◌≡◌, ◌*◌, ◌≤◌, take}
use Rattle.rights_types.specs.Rights.{to}
use Rattle.rights_book.proofs.check.gifts_to.Given as goal

abbrev pub invariant-loop-m : goal.invariant-loop-m
invariant-loop-m l = record {
  value : l.gifts ≡ to l.site (take l.m-index l.moves);
  bound : l.gifts ≤ l.m-index * 1000000000;
}
