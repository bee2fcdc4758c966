use Rattle.std.proofs.Common.{◌≡◌, ◌-◌, ◌+◌, ◌<◌, ◌≤◌, ◌++◌, ℕ, List, [], Option, length, take}
use Rattle.rights_types.specs.declared.limits.TheConstants.{MAX_LINE}
use Rattle.entry_codec.specs.Pieces.{pieces}
use Rattle.line_streams.specs.Going.{Going}
use Rattle.line_streams.proofs.lines.Conversation.feed.Given as goal

abbrev pub invariant-loop-length : goal.invariant-loop-length
invariant-loop-length g l = record {
  within : l.at ≤ length l.bytes;
  ready : l.self.replies.part ≡ [];
  room : length l.self.replies.whole < 65536;
  short : length l.self.carry.items ≤ MAX_LINE;
  few : l.self.count < 1000000000;
  counted : l.self.count ≡ l.fn.self.count + length (pieces (take l.at l.bytes));
  moves : 0 < l.at → 0 < length (pieces (take l.at l.bytes));
  going : (start : g.row.H.Denot) (input : List ℕ) (held : Option (List ℕ))
      → Going g.H.LineHandler.answers start input l.fn.handler held (g.W.Write.contents l.fn.writer) l.fn.self.replies
      l.fn.self.carry.items
      → Going g.H.LineHandler.answers start (input ++ take l.at l.bytes) l.handler held
      (g.W.Write.contents l.writer) l.self.replies l.self.carry.items;
}

abbrev pub decreases-loop-length : goal.decreases-loop-length
decreases-loop-length g l = length l.bytes - l.at
