use Rattle.std.proofs.Common.{◌≡◌, ◌+◌, ◌++◌, length, take}
use Rattle.entry_codec.specs.Texts.{behind, answer_head, entry_text}
use Rattle.entry_codec.proofs.writing.put_answer.Given as goal

abbrev pub invariant-loop-entry : goal.invariant-loop-entry
invariant-loop-entry g l = record {
  end : l.at ≡ l.start + length (answer_head l.answer ++ behind 59 entry_text (take l.entry-index l.entry-items));
  text : take l.at l.buffer
      ≡ take l.start l.fn.buffer ++ (answer_head l.answer ++ behind 59 entry_text (take l.entry-index l.entry-items));
}
