use Rattle.std.proofs.Common.{◌≡◌}
use Rattle.rights_types.specs.Entries.{EntryValue, IsEntry}
use Rattle.thread_parts.specs.Items.{Continues, IsOpen}
use Rattle.bench.proofs.lane.put_all.Given as goal

-- an entry of site 1 after this number may come next
abbrev pub invariant-loop-number : goal.invariant-loop-number
invariant-loop-number g l =
    ((f : EntryValue) → f.origin ≡ 1 → f.prev ≡ l.number → IsEntry f → Continues l.inlet.put f) × IsOpen l.inlet.put
