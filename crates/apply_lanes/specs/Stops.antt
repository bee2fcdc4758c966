-- The end of a shared desk.
use Rattle.std.specs.Prelude.{◌≡◌, ℕ, ◌+◌, ◌-◌, not, ◌==◌, List, sum_by, Option, Some, None, if◌then◌else◌}
use Rattle.rights_types.specs.Chains.{moves_of}
use Rattle.rights_types.specs.Rights.{out, taken_back}
use Rattle.rights_book.specs.Books.{held_by}
use Rattle.site_core.specs.Desks.{DeskValue}
use Rattle.apply_lanes.specs.Kepts.{KeptValue, SeatValue, seats_given}
use Rattle.apply_lanes.specs.declared.names.TheConstants.{APPLIERS}
use Rattle.apply_lanes.specs.declared.kept.Missing.{Missing}
use Rattle.apply_lanes.specs.declared.kept.Missing.TheVariants.{Seat, Applier}
use Rattle.apply_lanes.specs.Appliers.{AppliedValue}
use Rattle.apply_lanes.specs.declared.stopping.Report.{Report}
use Rattle.apply_lanes.specs.declared.stopping.Parts.{Parts}
use Rattle.apply_lanes.specs.declared.stopping.StopError.{StopError}
use Rattle.apply_lanes.specs.declared.stopping.StopError.TheVariants.{SeatMissing, ApplierMissing}

-- what the calls of the seats reported, in total
abbrev pub all_issued : List SeatValue → ℕ
all_issued seats = sum_by (λ (s : SeatValue). s.issued) seats

abbrev pub all_spent : List SeatValue → ℕ
all_spent seats = sum_by (λ (s : SeatValue). s.spent) seats

abbrev pub all_served : List SeatValue → ℕ
all_served seats = sum_by (λ (s : SeatValue). s.served) seats

-- what the appliers reported, in total
abbrev pub all_numbers : List AppliedValue → ℕ
all_numbers applied = sum_by (λ (a : AppliedValue). a.number) applied

abbrev pub all_received : List AppliedValue → ℕ
all_received applied = sum_by (λ (a : AppliedValue). a.received) applied

-- a report has what the calls of the seats and the appliers reported, and is in balance
pub record Reports (seats : List SeatValue) (shares : List AppliedValue) (r : Report) : Type 0 where
  pub told_issued : r.told_issued ≡ all_issued seats
  pub told_spent : r.told_spent ≡ all_spent seats
  pub told_served : r.told_served ≡ all_served seats
  pub issued : r.issued ≡ r.told_issued
  pub spent : r.spent ≡ r.told_spent + r.told_served
  pub applied : r.applied ≡ all_numbers shares
  pub received : r.received ≡ all_received shares
  pub held : r.held + r.given + r.spent ≡ r.issued + r.received + r.back

-- and what it says was given, taken back and is held is what the desk says
pub record ReportsDesk (d : DeskValue) (r : Report) : Type 0 where
  pub given : r.given ≡ out (moves_of d.ledger.log.entries)
  pub back : r.back ≡ taken_back (moves_of d.ledger.log.entries)
  pub held : r.held ≡ held_by d.ledger.book

-- what is missing of all that was given out, if this number of seats and appliers is there; the clock's seat counts
-- among the seats
abbrev pub missing_of : KeptValue → ℕ → ℕ → Option Missing
missing_of k seats appliers =
    if not (seats == seats_given k) then Some Seat
    else (if not (appliers == APPLIERS - k.number.left) then Some Applier else None)

-- what a refusal says is missing
abbrev pub missing_by : {D A : Type 0} → StopError D A → Missing
missing_by (SeatMissing parts) = Seat
missing_by (ApplierMissing parts) = Applier

-- the parts that a refusal returns
abbrev pub parts_of : {D A : Type 0} → StopError D A → Parts D A
parts_of (SeatMissing parts) = parts
parts_of (ApplierMissing parts) = parts
