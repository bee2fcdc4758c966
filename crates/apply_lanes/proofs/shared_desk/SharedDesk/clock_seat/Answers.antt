use Rattle.apply_lanes.proofs.ApplierLaws.{clock_seat_told}
use Rattle.apply_lanes.proofs.shared_desk.SharedDesk.clock_seat.Goals as goal

pub returns-clause-told : goal.returns-clause-told
returns-clause-told g c = clock_seat_told c.deref_mut.result.now c.clock_seat.result c.clock_seat.new.self
    c.clock_seat.ensures.seat

pub returns-clause-seat : goal.returns-clause-seat
returns-clause-seat g c = (
  c.deref_mut.result.now,
  c.clock_seat.new.self,
  c.clock_seat.ensures.before,
  c.clock_seat.ensures.after,
  c.clock_seat.ensures.seat,
)
