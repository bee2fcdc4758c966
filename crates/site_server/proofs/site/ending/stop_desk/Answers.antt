use Rattle.std.proofs.Common.{sym, subst, IfOk}
use Rattle.site_server.specs.Ending.{StopsDesk}
use Rattle.site_server.proofs.EndingLaws.{stops}
use Rattle.site_server.proofs.site.ending.stop_desk.Goals as goal
use Rattle.site_server.proofs.site.ending.stop_desk.Goals.{in-Ok-stop, in-Err}

pub returns : goal.returns
returns g c =
    let id = g.D.DeskNames.id in
    elim c.match-stop.branch [
      | in-Ok-stop w ↦ subst (λ r. IfOk r (λ report. StopsDesk id report)) (sym w.result-is)
          (stops id c.in_ok-seats.seats.items c.in_ok-applied.applied.items w.in-Ok-stop.report
          w.in-Ok-stop.ensures.ok w.in-Ok-stop.ensures.desk)
      | in-Err w ↦ subst (λ r. IfOk r (λ report. StopsDesk id report)) (sym w.result-is) tt
    ]
