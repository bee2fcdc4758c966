use Rattle.std.proofs.Common.{subst, ℕ, false}
use Rattle.apply_lanes.specs.Kepts.{SeatValue}
use Rattle.desk_turns.specs.Turns.{ServesDue}
use Rattle.desk_turns.proofs.seats.Seated.tick.Goals as goal

pub returns : goal.returns
returns g c =
    let t = c.take.ensures in
    let does = subst (λ (was : SeatValue). ServesDue (λ (j : ℕ). false) t.old was c.args.time c.take.result t.new c.take.new.with)
    c.deref_mut.ensures.value t.does in
    rw (← c.self.view_is) record { old = t.old; new = t.new; one = t.one; valid = t.before; does = does }
