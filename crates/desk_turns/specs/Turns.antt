-- A turn at a desk, under one hold of its lock.
use Rattle.std.specs.Prelude.{◌≡◌, ℕ, Bool, List, [], ◌∷◌, ◌++◌, Result}
use Rattle.request_queue.specs.declared.request.Request.{Request}
use Rattle.site_core.specs.declared.fault.DeskError.{DeskError}
use Rattle.apply_lanes.specs.Names.{DeskId}
use Rattle.apply_lanes.specs.Kepts.{KeptValue, SeatValue, IsKept}
use Rattle.site_node.specs.Ticking.{TicksBeside}
use Rattle.site_node.specs.declared.tick.Ticked.{Ticked}

-- one more turn was taken, and it did this; the lists have the states of the desk before and after each turn
pub record TakesTurn (id : DeskId) (Does : KeptValue → KeptValue → Type 0) (was now : List KeptValue) : Type 0 where
  pub old : KeptValue
  pub new : KeptValue
  pub one : now ≡ was ++ old ∷ new ∷ []
  pub before : IsKept id old
  pub after : IsKept id new
  pub does : Does old new

-- what is due at this time, beside these silent sites, was done at the desk, for a seat
pub record ServesDue (silent : ℕ → Bool) (old : KeptValue) (was : SeatValue) (time : ℕ)
    (ticked : Result Ticked DeskError) (new : KeptValue) (now : SeatValue) : Type 0 where
  pub served : List Request
  pub ticks : TicksBeside silent old was time served ticked new now
