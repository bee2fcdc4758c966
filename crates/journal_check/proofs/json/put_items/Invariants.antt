use Rattle.std.proofs.Common.{◌≡◌, ◌++◌}
use Rattle.journal_check.specs.Texts.{peer_items}
use Rattle.journal_check.proofs.json.put_items.Given as goal

-- the objects of the other sites up to here
abbrev pub invariant-loop-index : goal.invariant-loop-index
invariant-loop-index l = (l.out.part ≡ l.fn.out.part ++ peer_items l.desk l.index) × (l.out.whole ≡ l.fn.out.whole)
