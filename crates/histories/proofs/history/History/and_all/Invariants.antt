use Rattle.std.proofs.Common.{◌≡◌, ◌++◌, take}
use Rattle.histories.proofs.history.History.and_all.Given as goal

abbrev pub invariant-loop-item : goal.invariant-loop-item
invariant-loop-item g l = l.all.items ≡ l.fn.self.items ++ take l.item-index l.items
