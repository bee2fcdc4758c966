use Rattle.std.proofs.Common.{◌≡◌}
use Rattle.rights_types.specs.Entries.{EntryValue, IsEntry}
use Rattle.thread_parts.specs.Items.{Continues}
use Rattle.shared_desk_tests.proofs.tests.drops.put_some.Given as goal

-- an entry of site 2 after this number may come next
abbrev pub invariant-loop-number : goal.invariant-loop-number
invariant-loop-number g l = (f : EntryValue) → f.origin ≡ 2 → f.prev ≡ l.number → IsEntry f → Continues l.inlet.put f
