use Rattle.std.proofs.Common.{◌≡◌, ◌+◌, ◌-◌, ◌<◌, ◌≤◌, ℕ, false, List, ◌++◌, length, take}
use Rattle.entry_codec.specs.Pieces.{pieces}
use Rattle.sub_buffer.specs.Buffers.{SamePair}
use Rattle.peer_links.specs.Links.{IsFedAll}
use Rattle.peer_links.specs.Ports.{Heard}
use Rattle.peer_links.specs.Turns.{InTurn}
use Rattle.peer_links.specs.Takes.{pieces_behind, Takes}
use Rattle.peer_links.proofs.link.reading.take_block.Given as goal

abbrev pub invariant-pieces : goal.invariant-pieces
invariant-pieces g l =
    (l.at ≤ length l.bytes) × (l.count < 1000000000) × (l.count ≡ l.fn.count + length (pieces (take l.at l.bytes)))
    × (0 < l.at → 0 < length (pieces (take l.at l.bytes)))
    × (l.intake.finished ≡ false) × (l.intake.inlet.lane ≡ l.fn.intake.inlet.lane)
    × ((stream : List ℕ) → IsFedAll l.fn.cutter stream → IsFedAll l.cutter (stream ++ take l.at l.bytes))
    × ((stream : List ℕ) → IsFedAll l.fn.cutter stream → (heard : List Heard)
    × Takes l.fn.intake (pieces_behind stream (take l.at l.bytes)) heard l.intake
    × InTurn g.P.Port.hears l.fn.port heard l.port)
    × SamePair l.fn.intake.inbound.buffer l.intake.inbound.buffer

abbrev pub decreases-pieces : goal.decreases-pieces
decreases-pieces g l = length l.bytes - l.at
