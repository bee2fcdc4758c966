use Rattle.std.proofs.Common.{◌≡◌, bytes_eq, length}
use Rattle.line_streams.proofs.words.is_same.Given as goal

-- what is left decides
abbrev pub invariant-bytes : goal.invariant-bytes
invariant-bytes l = bytes_eq l.left l.others ≡ bytes_eq l.one l.other

abbrev pub decreases-bytes : goal.decreases-bytes
decreases-bytes l = length l.left
