use Rattle.std.proofs.Common.{◌≡◌, ◌-◌, ◌<◌, ◌++◌, ℕ, false, List, length}
use Rattle.sub_buffer.specs.Buffers.{SamePair}
use Rattle.peer_links.specs.Links.{IsFedAll, LinkGave, counted}
use Rattle.peer_links.specs.Ports.{Heard}
use Rattle.peer_links.specs.Turns.{InTurn}
use Rattle.peer_links.specs.Takes.{pieces_behind, Takes}
use Rattle.peer_links.specs.declared.link.reading.TheConstants.{READ_SIZE}
use Rattle.peer_links.proofs.link.reading.read_link.Given as goal

abbrev pub invariant-reads : goal.invariant-reads
invariant-reads g l =
    (length l.room ≡ READ_SIZE) × (l.count < 1000000000) × (l.intake.finished ≡ false)
    × (l.intake.inlet.lane ≡ l.fn.intake.inlet.lane)
    × ((stream : List ℕ) × IsFedAll l.cutter stream)
    × ((gave : LinkGave (g.I.Read.remaining l.fn.reader) (g.I.Read.remaining l.reader)) × (l.count ≡ counted gave)
    × ((stream : List ℕ) → IsFedAll l.fn.cutter stream → IsFedAll l.cutter (stream ++ gave.input)
    × ((heard : List Heard) × Takes l.fn.intake (pieces_behind stream gave.input) heard l.intake
    × InTurn g.P.Port.hears l.fn.port heard l.port)))
    × SamePair l.fn.intake.inbound.buffer l.intake.inbound.buffer

abbrev pub decreases-reads : goal.decreases-reads
decreases-reads g l = 1000000000 - l.count
