use Rattle.std.proofs.Common.{◌≡◌, ◌+◌, ◌≤◌, length, take, drop}
use Rattle.std.specs.List.{All}
use Rattle.rights_types.specs.Entries.{EntryValue}
use Rattle.rights_types.specs.Chains.{moves_of}
use Rattle.rights_types.specs.Rights.{to}
use Rattle.site_core.proofs.owed.given_beyond.Given as goal

abbrev pub invariant-loop-index : goal.invariant-loop-index
invariant-loop-index g l = record {
  within : l.index ≤ length l.log.entries;
  sum : to l.peer (moves_of l.log.entries) ≡ to l.peer (moves_of (take l.index l.log.entries)) + l.given;
  later : All (λ (e : EntryValue). l.number ≤ e.prev) (drop l.index l.log.entries);
}

abbrev pub decreases-loop-index : goal.decreases-loop-index
decreases-loop-index g l = l.index
