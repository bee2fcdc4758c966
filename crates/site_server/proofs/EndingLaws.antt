-- The end of a site's desk.
use Rattle.std.proofs.Common.{◌≡◌, List, length, None}
use Rattle.apply_lanes.specs.Appliers.{AppliedValue}
use Rattle.apply_lanes.specs.Kepts.{KeptValue, SeatValue, IsKept}
use Rattle.apply_lanes.specs.Names.{DeskId}
use Rattle.apply_lanes.specs.Stops.{Reports, ReportsDesk, missing_of}
use Rattle.apply_lanes.specs.declared.stopping.Report.{Report}
use Rattle.site_server.specs.Ending.{StopsDesk}

-- a report of the desk, from its seats and appliers
pub stops : (id : DeskId) (seats : List SeatValue) (applied : List AppliedValue) (report : Report)
    → Reports seats applied report
    → (kept : KeptValue) × IsKept id kept × (missing_of kept (length seats) (length applied) ≡ None)
    × ReportsDesk kept.desk report
    → StopsDesk id report
stops id seats applied report of_seats desk = record {
  seats = seats;
  applied = applied;
  kept = desk.0;
  valid = desk.1;
  all_back = desk.2;
  of_seats = of_seats;
  of_desk = desk.3;
}
