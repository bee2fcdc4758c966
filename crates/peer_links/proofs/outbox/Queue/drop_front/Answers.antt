use Rattle.peer_links.proofs.QueueLaws.{dropped_more}
use Rattle.peer_links.proofs.outbox.Queue.drop_front.Goals as goal

pub lines-preserved : goal.lines-preserved
lines-preserved g c = dropped_more c.args.self.now c.lines.self c.take-line.new.self c.lines.counter c.lines.invariant
    c.take-line.ensures.left
