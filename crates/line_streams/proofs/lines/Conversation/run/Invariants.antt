use Rattle.std.proofs.Common.{◌≡◌, ◌-◌, ◌+◌, ◌<◌, ◌≤◌, ℕ, List, length}
use Rattle.std.specs.Io.KnownBytes.{Consumes}
use Rattle.rights_types.specs.declared.limits.TheConstants.{MAX_LINE}
use Rattle.entry_codec.specs.Pieces.{pieces}
use Rattle.line_streams.specs.Counting.{still, Parted}
use Rattle.line_streams.specs.Waiting.{IsEmpty}
use Rattle.line_streams.specs.Going.{Going}
use Rattle.line_streams.proofs.lines.Conversation.run.Given as goal

abbrev pub invariant-reads : goal.invariant-reads
invariant-reads g l = record {
  written : IsEmpty l.self.replies;
  short : length l.self.carry.items ≤ MAX_LINE;
  few : l.self.count < 1000000000;
  going : (chunks : List (List ℕ)) × (input : List ℕ)
      × Consumes (g.R.Read.remaining l.fn.reader) (g.R.Read.remaining l.reader) input
      × Parted chunks input × (l.self.count ≡ length (pieces input) + still chunks)
      × Going g.H.LineHandler.answers l.fn.handler input l.handler (g.W.Write.contents l.fn.writer)
      (g.W.Write.contents l.writer) l.self.replies l.self.carry.items;
}

abbrev pub decreases-reads : goal.decreases-reads
decreases-reads g l = 1000000000 - l.self.count
