use Rattle.std.proofs.Common.{◌≡◌, ◌+◌, ◌*◌, ◌≤◌, length, take}
use Rattle.std.specs.Prelude.{decimal}
use Rattle.entry_codec.specs.Texts.{behind}
use Rattle.entry_codec.proofs.length.frontier_len.Given as goal

abbrev pub invariant-loop-index : goal.invariant-loop-index
invariant-loop-index l = (l.total ≡ 1 + length (behind 58 decimal (take l.index l.frontier)))
    × (l.total ≤ 1 + 21 * l.index)
