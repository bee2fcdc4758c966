use Rattle.std.proofs.Common.{◌≡◌, ◌+◌, ◌*◌, ◌≤◌, length, take}
use Rattle.entry_codec.specs.Spelling.{move_text}
use Rattle.entry_codec.specs.Texts.{behind, entry_head}
use Rattle.entry_codec.proofs.length.entry_len_of.Given as goal

abbrev pub invariant-loop-m : goal.invariant-loop-m
invariant-loop-m l =
    (l.total ≡ length (entry_head (record { origin = l.fn.origin; prev = l.fn.prev; moves = l.moves }))
    + length (behind 32 move_text (take l.m-index l.moves))) × (l.total ≤ 64 + 401 * l.m-index)
