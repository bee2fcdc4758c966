use Rattle.std.proofs.Common.{◌≡◌}
use Rattle.std.specs.List.{All}
use Rattle.rights_types.specs.Entries.{EntryValue}
use Rattle.parts_tests.proofs.tests.buffer.steps.entries_after.Given as goal

abbrev pub invariant-loop-prev : goal.invariant-loop-prev
invariant-loop-prev g l = All (λ (e : EntryValue). e.origin ≡ l.origin) l.entries.items
