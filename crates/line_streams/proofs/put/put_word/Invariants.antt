use Rattle.std.proofs.Common.{◌≡◌, ◌+◌, ◌++◌, length, take}
use Rattle.line_streams.proofs.put.put_word.Given as goal

abbrev pub invariant-loop-index : goal.invariant-loop-index
invariant-loop-index g l = record {
  room : length l.bytes ≡ length l.fn.bytes;
  text : take (l.at + l.index) l.bytes ≡ take l.at l.fn.bytes ++ take l.index l.word;
}
