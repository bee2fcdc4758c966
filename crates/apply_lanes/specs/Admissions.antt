-- Who gets a seat, and which origins get an applier.
use Rattle.std.specs.Prelude.{◌≡◌, ℕ, ◌+◌, nat_lt, ◌==◌, Bool, true, false, List, Option, Some, None, Result, Ok, Err}
use Rattle.std.specs.Prelude.{if◌then◌else◌}
use Rattle.rights_types.specs.Places.{at_site, set_site}
use Rattle.thread_parts.specs.Ends.{OutletValue}
use Rattle.apply_lanes.specs.Kepts.{KeptValue, SeatValue, told_nothing, one_less, seats_left}
use Rattle.apply_lanes.specs.Appliers.{ApplierValue, new_applier}
use Rattle.apply_lanes.specs.declared.seat.SeatsFull.{SeatsFull}
use Rattle.apply_lanes.specs.declared.kept.AdmitCause.{AdmitCause}
use Rattle.apply_lanes.specs.declared.kept.AdmitCause.TheVariants.{NoSuchSite, SameSite, Taken}
use Rattle.apply_lanes.specs.Names.{DeskId}

-- the result and the effect of asking for a seat: there was one more, or none was left besides the clock's
abbrev pub GivesSeat : KeptValue → Result SeatValue SeatsFull → KeptValue → Type 0
GivesSeat old (Ok s) new =
    (s ≡ told_nothing) × one_less old.issued new.issued × one_less old.spent new.spent
    × (seats_left new + 1 ≡ seats_left old)
    × (new ≡ record old { issued = new.issued; spent = new.spent })
GivesSeat old (Err full) new = (seats_left old ≡ 0) × (new ≡ old)

-- the result and the effect of asking for the clock's seat: it is given out now, and does not count among the others;
-- or it was given out before
abbrev pub GivesClockSeat : KeptValue → Result SeatValue SeatsFull → KeptValue → Type 0
GivesClockSeat old (Ok s) new =
    (s ≡ told_nothing) × one_less old.issued new.issued × one_less old.spent new.spent
    × (seats_left new ≡ seats_left old)
    × (old.clock_given ≡ false) × (new ≡ record old { issued = new.issued; spent = new.spent; clock_given = true })
GivesClockSeat old (Err full) new = (old.clock_given ≡ true) × (new ≡ old)

-- why a site gets no applier at the desk, apart from one that was given out already
abbrev pub site_fault : DeskId → ℕ → Option AdmitCause
site_fault id o = if nat_lt id.sites o then Some NoSuchSite else (if o == id.site then Some SameSite else None)

-- whether o gets an applier; the list says of each site, from site 1 on, whether one was given out
abbrev pub Admits : DeskId → List Bool → ℕ → Option AdmitCause → Type 0
Admits id admitted o None = (site_fault id o ≡ None) × (at_site admitted o true ≡ false)
Admits id admitted o (Some Taken) = (site_fault id o ≡ None) × (at_site admitted o true ≡ true)
Admits id admitted o (Some fault) = site_fault id o ≡ Some fault

-- the applier of o's log was given out: it is new, and counts as given out from then on
pub record GivesApplier {G A : Type 0} (id : DeskId) (old : KeptValue) (o : ℕ) (outlet : OutletValue A) (gate : G)
    (a : ApplierValue G A) (new : KeptValue) : Type 0 where
  pub admits : Admits id old.admitted o None
  pub fresh : a ≡ new_applier o outlet gate
  pub admitted : new.admitted ≡ set_site old.admitted o true
  pub number : one_less old.number new.number
  pub received : one_less old.received new.received
  pub rest : new ≡ record old { number = new.number; received = new.received; admitted = new.admitted }
