use Rattle.std.proofs.Common.{◌≡◌, drop}
use Rattle.peer_links.proofs.outbox.Queue.drop_front.Given as goal

abbrev pub invariant-lines : goal.invariant-lines
invariant-lines g l = l.self ≡ record l.fn.self { lines = drop l.counter l.fn.self.lines }
