use Rattle.peer_links.proofs.QueueLaws.{queue_take}
use Rattle.peer_links.proofs.outbox.Queue.take.Goals as goal

pub invariant_of-self : goal.invariant_of-self
invariant_of-self g c = queue_take c.self.inside.lines c.pop_front.new.self c.self.invariant c.pop_front.ensures.items
