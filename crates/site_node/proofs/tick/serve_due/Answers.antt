use Rattle.site_node.proofs.Beside.{ticks_alone}
use Rattle.site_node.proofs.tick.serve_due.Goals as goal

pub returns : goal.returns
returns g c =
    let done = c.serve_due_beside.ensures in
    (done.0, ticks_alone _ _ _ _ _ _ _ _ c.new.ensures done.1)
