use Rattle.peer_links.proofs.QueueLaws.{queue_put, room_for}
use Rattle.peer_links.proofs.outbox.Queue.put.Goals as goal

pub invariant_of-self : goal.invariant_of-self
invariant_of-self g c =
    let push = c.try_push_back in
    queue_put c.self.inside.lines push.new.self c.args.line push.result c.self.invariant c.requires
    (room_for push.result push.ensures.variant) push.ensures.ok push.ensures.err

pub invariant_of-self-2 : goal.invariant_of-self-2
invariant_of-self-2 g c =
    let push = c.try_push_back in
    queue_put c.self.inside.lines push.new.self c.args.line push.result c.self.invariant c.requires
    (room_for push.result push.ensures.variant) push.ensures.ok push.ensures.err
