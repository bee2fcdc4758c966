use Rattle.std.proofs.Common.{◌≡◌, ◌++◌}
use Rattle.journal_check.specs.Texts.{peer_rows}
use Rattle.journal_check.proofs.table.put_peers.Given as goal

-- the rows of the other sites up to here
abbrev pub invariant-loop-index : goal.invariant-loop-index
invariant-loop-index l = (l.out.part ≡ l.fn.out.part ++ peer_rows l.desk l.index) × (l.out.whole ≡ l.fn.out.whole)
