use Rattle.std.proofs.Common.{◌≡◌, ◌+◌, ◌*◌, ◌≤◌, length, take}
use Rattle.entry_codec.specs.Texts.{behind, answer_head, entry_text}
use Rattle.entry_codec.proofs.length.answer_len.Given as goal

abbrev pub invariant-loop-entry : goal.invariant-loop-entry
invariant-loop-entry g l =
    (l.total ≡ length (answer_head l.answer) + length (behind 59 entry_text (take l.entry-index l.entry-items)))
    × (l.total ≤ 43 + 10001 * l.entry-index)
