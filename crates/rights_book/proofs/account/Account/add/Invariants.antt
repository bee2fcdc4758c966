use Rattle.std.proofs.Common.{◌≡◌, ◌+◌, drop}
use Rattle.rights_book.specs.Accounts.{with_moves, IsAccount}
use Rattle.rights_book.proofs.account.Account.add.Given as goal

abbrev pub invariant-loop-m : goal.invariant-loop-m
invariant-loop-m l = record {
  added : with_moves l.self (drop l.m-index l.moves) ≡ with_moves l.initial.self l.moves;
  valid : IsAccount l.self;
  end : l.self.end ≡ l.initial.self.end + l.m-index;
}
