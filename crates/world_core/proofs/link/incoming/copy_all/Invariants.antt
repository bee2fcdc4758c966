use Rattle.std.proofs.Common.{◌≡◌, ◌≤◌, take, length, vec_capacity}
use Rattle.world_core.proofs.link.incoming.copy_all.Given as goal

abbrev pub invariant-loop-entry : goal.invariant-loop-entry
invariant-loop-entry g l = record {
  items : l.copies.items ≡ take l.entry-index l.entries;
  room : length l.entries ≤ vec_capacity l.copies;
}
