use Rattle.std.proofs.Common.{◌≡◌, ◌+◌, ◌++◌, length, take}
use Rattle.entry_codec.specs.Texts.{frontier_text}
use Rattle.entry_codec.proofs.writing.put_frontier.Given as goal

abbrev pub invariant-loop-index : goal.invariant-loop-index
invariant-loop-index l = record {
  end : l.at ≡ l.start + length (frontier_text (take l.index l.frontier));
  text : take l.at l.buffer ≡ take l.start l.fn.buffer ++ frontier_text (take l.index l.frontier);
}
