-- The end of a site's desk.
use Rattle.std.specs.Prelude.{◌≡◌, ℕ, List, length, Option, None}
use Rattle.rights_types.specs.Chains.{end}
use Rattle.apply_lanes.specs.Appliers.{AppliedValue}
use Rattle.apply_lanes.specs.Kepts.{KeptValue, SeatValue, IsKept}
use Rattle.apply_lanes.specs.Names.{DeskId}
use Rattle.apply_lanes.specs.Stops.{Reports, ReportsDesk, missing_of}
use Rattle.apply_lanes.specs.declared.stopping.Report.{Report}
use Rattle.site_metrics.specs.Unsent.{numbers_unsent}

-- the report of a desk whose seats and appliers were all returned: what was reported to all its clients is what it did
pub record StopsDesk (id : DeskId) (report : Report) : Type 0 where
  pub seats : List SeatValue
  pub applied : List AppliedValue
  pub kept : KeptValue
  pub valid : IsKept id kept
  pub all_back : missing_of kept (length seats) (length applied) ≡ None
  pub of_seats : Reports seats applied report
  pub of_desk : ReportsDesk kept.desk report

-- of the log of the desk, which numbers were sent to no peer, where so much was sent to each
pub record TellsUnsent (id : DeskId) (sent : List ℕ) (numbers : Option (ℕ × ℕ)) : Type 0 where
  pub kept : KeptValue
  pub valid : IsKept id kept
  pub says : numbers ≡ numbers_unsent (end kept.desk.ledger.log.entries) sent
