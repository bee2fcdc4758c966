use Rattle.std.proofs.Common.{◌≡◌, List, [], length}
use Rattle.std.specs.Prelude.{IsSome}
use Rattle.std.specs.List.{All, Contains}
use Rattle.rights_types.specs.Entries.{EntryValue}
use Rattle.sub_buffer.specs.Follows.{Follows}
use Rattle.world_core.specs.IncomingLists.{HasRoom, IsIncoming}
use Rattle.world_core.proofs.LinkLaws.{GoesOn}
use Rattle.world_core.proofs.link.Link.take_answer.Given as goal

abbrev pub invariant-loop-entry : goal.invariant-loop-entry
invariant-loop-entry g l = record {
  incoming : IsIncoming l.self-inside.incoming l.self-inside.applied;
  goes_on : (es : List EntryValue) → All (Contains es) l.fn.entries.items
      → Follows es l.fn.self.reached l.fn.self.put l.fn.self.inbound.buffer
      → GoesOn g.K.Keeping.keeps es l.fn.self l.fn.entries.items l.self-inside.incoming l.self-inside.applied
      l.entry-iterator.rest.items l.scratch.reported.items;
  origin : All (λ (e : EntryValue). e.origin ≡ l.self-inside.incoming.inbound.buffer.origin)
      l.entry-iterator.rest.items;
  copies : IsSome l.self-inside.incoming.apart → l.copies.rest.items ≡ l.entry-iterator.rest.items;
  empty : l.scratch.verdicts.items ≡ [];
  room : HasRoom (length l.entry-iterator.rest.items) l.self-inside.incoming l.scratch;
}
