use Rattle.std.proofs.Common.{◌≡◌, ◌≤◌, ◌-◌, length, take}
use Rattle.entry_codec.specs.Pieces.{pieces}
use Rattle.peer_links.proofs.link.writing.count_lines.Given as goal

abbrev pub invariant-lines : goal.invariant-lines
invariant-lines l = (l.at ≤ length l.text) × (l.count ≤ l.at) × (l.count ≡ length (pieces (take l.at l.text)))

abbrev pub decreases-lines : goal.decreases-lines
decreases-lines l = length l.text - l.at
