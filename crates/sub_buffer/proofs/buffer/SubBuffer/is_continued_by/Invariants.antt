use Rattle.std.proofs.Common.{◌≡◌, ◌↔◌, [], drop}
use Rattle.rights_types.specs.Chains.{ChainFrom}
use Rattle.sub_buffer.proofs.buffer.SubBuffer.is_continued_by.Given as goal

abbrev pub invariant-loop-entry : goal.invariant-loop-entry
invariant-loop-entry g l = record {
  none : l.self.held ≡ [];
  -- all entries continue the chain if those that are left continue it
  goes : ChainFrom l.self.origin l.closed l.last (drop l.entry-index l.entries)
      ↔ ChainFrom l.self.origin l.self.closed l.self.last l.entries;
}
