use Rattle.std.proofs.Common.{◌≡◌, ◌+◌, ◌++◌, length, take}
use Rattle.entry_codec.specs.Spelling.{move_text}
use Rattle.entry_codec.specs.Texts.{behind, entry_head}
use Rattle.entry_codec.proofs.writing.put_entry_of.Given as goal

abbrev pub invariant-loop-m : goal.invariant-loop-m
invariant-loop-m l = record {
  end : l.at ≡ l.start + length (entry_head (record { origin = l.fn.origin; prev = l.fn.prev; moves = l.moves })
      ++ behind 32 move_text (take l.m-index l.moves));
  text : take l.at l.buffer
      ≡ take l.start l.fn.buffer ++ (entry_head (record { origin = l.fn.origin; prev = l.fn.prev; moves = l.moves })
      ++ behind 32 move_text (take l.m-index l.moves));
}
