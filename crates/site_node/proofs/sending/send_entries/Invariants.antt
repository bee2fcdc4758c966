use Rattle.std.proofs.Common.{◌-◌, length}
use Rattle.site_node.specs.Sending.{SendsMany}
use Rattle.site_node.proofs.Publishing.{Published, cursor}
use Rattle.site_node.proofs.sending.send_entries.Given as goal

-- this many entries were published, and each of their lines found space
abbrev pub invariant-entries : goal.invariant-entries
invariant-entries g l = record {
  many : SendsMany g.S.Sink.takes l.initial.kept l.peer l.initial.sink l.sent l.kept l.sink;
  published : Published l.initial.kept.desk.ledger.log.entries l.peer l.sent l.kept;
}

-- the entries that are left
abbrev pub decreases-entries : goal.decreases-entries
decreases-entries g l = length l.kept.desk.ledger.log.entries - cursor l.kept l.peer
