use Rattle.std.proofs.Common.{◌≡◌, ◌+◌, ◌++◌, take, drop}
use Rattle.journal_device.specs.Images.{come}
use Rattle.journal_device.proofs.change.write_some.Given as goal

-- with the bytes that are left it is the whole write
abbrev pub invariant-loop-i : goal.invariant-loop-i
invariant-loop-i g l =
    take (l.at + l.i) l.image.items ++ come l.written l.i (drop l.i l.bytes) (drop (l.at + l.i) l.image.items)
    ≡ take l.at l.initial.image.items ++ come l.written 0 l.bytes (drop l.at l.initial.image.items)
