use Rattle.std.proofs.Common.{◌≡◌, ℕ, [], List, length}
use Rattle.std.specs.Io.KnownBytes.{Consumes}
use Rattle.entry_codec.specs.Cutter.{IsFed}
use Rattle.peer_links.specs.Links.{IsOpen}
use Rattle.peer_links.proofs.link.hello.read_first.Given as goal

-- what was read so far has no line feed
abbrev pub invariant-bytes : goal.invariant-bytes
invariant-bytes g l = (text : List ℕ) × Consumes (g.I.Read.remaining l.fn.reader) (g.I.Read.remaining l.reader) text
    × (length text ≡ l.counter) × IsOpen text × IsFed l.cutter text []
