use Rattle.std.proofs.Common.{arith}
use Rattle.std.proofs.lemmas.List.{nil_from_length}
use Rattle.site_core.proofs.RetiringLaws.{closed}
use Rattle.site_core.proofs.desk.Desk.close.Goals as goal

pub invariant_of-self-2 : goal.invariant_of-self-2
invariant_of-self-2 g c =
    closed _ c.args.heir c.close.new.self c.self.invariant c.in_ok-close.ensures.ok
    (nil_from_length c.self.inside.queue.waiting (omega arith))
