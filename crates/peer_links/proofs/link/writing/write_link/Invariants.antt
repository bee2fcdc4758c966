use Rattle.std.proofs.Common.{◌≡◌, Ok, length}
use Rattle.peer_links.specs.Sources.{SendsLines}
use Rattle.peer_links.proofs.link.writing.write_link.Given as goal

-- the lines that were taken were written
abbrev pub invariant-batches : goal.invariant-batches
invariant-batches g l =
    (goal.iterator-batches g).can_next l.iterator' × (goal.iterator-batches g).is_finite l.iterator'
    × (length l.room ≡ 32768)
    × SendsLines g.S.LineSource.takes l.fn.source l.source (g.W.Write.contents l.fn.writer)
    (g.W.Write.contents l.writer) (Ok tt)
