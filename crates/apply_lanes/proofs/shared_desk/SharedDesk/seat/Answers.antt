use Rattle.apply_lanes.proofs.ApplierLaws.{seat_told}
use Rattle.apply_lanes.proofs.shared_desk.SharedDesk.seat.Goals as goal

pub returns-clause-told : goal.returns-clause-told
returns-clause-told g c = seat_told c.deref_mut.result.now c.seat.result c.seat.new.self c.seat.ensures.seat

pub returns-clause-seat : goal.returns-clause-seat
returns-clause-seat g c = (
  c.deref_mut.result.now,
  c.seat.new.self,
  c.seat.ensures.before,
  c.seat.ensures.after,
  c.seat.ensures.seat,
)
