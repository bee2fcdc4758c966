-- The effect of a tick at the desk, before anything is sent: it expires, serves and plans, in this order.
use Rattle.std.specs.Prelude.{◌≡◌, ℕ, ◌⊎◌, Bool, true, false, List, [], ◌∷◌, length, Some, Result, Ok, Err}
use Rattle.request_queue.specs.declared.request.Request.{Request}
use Rattle.request_queue.specs.Queues.{front_of}
use Rattle.site_core.specs.declared.fault.DeskError.{DeskError}
use Rattle.site_core.specs.Faults.{can_serve, serve_fault, expire_fault}
use Rattle.site_core.specs.Calls.{ServesFront, ServeKeeps, DeskExpires, DeskPlansBeside, CannotServe}
use Rattle.command_keys.specs.Books.{ServesKey}
use Rattle.apply_lanes.specs.Kepts.{KeptValue, SeatValue, raised, told_served}
use Rattle.apply_lanes.specs.Recording.{with_written, with_planned}
use Rattle.site_node.specs.Refusals.{Refuses}
use Rattle.site_node.specs.declared.tick.Ticked.{Ticked}

-- ---- serving

-- this request was at the front, was served, and is recorded, as is its key, if it waited under one; the counter and the
-- seat count its amount
pub record ServesNext (old : KeptValue) (was : SeatValue) (request : Request) (new : KeptValue)
    (now : SeatValue) : Type 0 where
  pub first : old.desk.queue.waiting ≡ request ∷ new.desk.queue.waiting
  pub number : ℕ
  pub desk : ServesFront old.desk request.ticket number new.desk
  pub keeps : ServeKeeps old.desk (Some (request.ticket, number)) new.desk
  pub key : ServesKey old.keys request.ticket number request.amount new.keys
  pub counter : new ≡ record old {
    desk = new.desk;
    spent = raised old.spent request.amount;
    records = with_written old.records new.desk;
    keys = new.keys;
  }
  pub counted : now ≡ told_served was request.amount

-- these requests were served, one after another
abbrev pub ServesEach : KeptValue → SeatValue → List Request → KeptValue → SeatValue → Type 0
ServesEach old was [] new now = (new ≡ old) × (now ≡ was)
ServesEach old was (request ∷ others) new now =
    (mid : KeptValue) × (half : SeatValue) × ServesNext old was request mid half × ServesEach mid half others new now

-- the request at the front could not be served, or none waits
abbrev pub HasServedAll : KeptValue → Type 0
HasServedAll k = CannotServe k.desk (front_of k.desk.queue.waiting)

-- a serve returns whether one more request was served; if not, nothing changed
abbrev pub ServesNextIf : Bool → KeptValue → SeatValue → KeptValue → SeatValue → Type 0
ServesNextIf true old was new now = (request : Request) × ServesNext old was request new now
ServesNextIf false old was new now = HasServedAll old × (new ≡ old) × (now ≡ was)

-- these requests were served, and then no other could be
pub record ServesAll (old : KeptValue) (was : SeatValue) (served : List Request) (new : KeptValue)
    (now : SeatValue) : Type 0 where
  pub each : ServesEach old was served new now
  pub all : HasServedAll new

-- these requests were served, and then the next one, which could be served, was refused
pub record ServingFails (old : KeptValue) (was : SeatValue) (served : List Request) (fault : DeskError)
    (new : KeptValue) (now : SeatValue) : Type 0 where
  pub each : ServesEach old was served new now
  pub refuses : Refuses (serve_fault new.desk) (can_serve new.desk (front_of new.desk.queue.waiting) ≡ true) fault

-- ---- a tick

-- this many were late at this time, and expired; only the desk changed
pub record ExpiresAll (old : KeptValue) (time count : ℕ) (new : KeptValue) : Type 0 where
  pub desk : DeskExpires old.desk time count new.desk
  pub rest : new ≡ record old { desk = new.desk }

-- this many asks were planned beside these silent sites, and each is recorded; only the desk changed
pub record PlansAsks (silent : ℕ → Bool) (old : KeptValue) (count : ℕ) (new : KeptValue) : Type 0 where
  pub desk : DeskPlansBeside silent old.desk count new.desk
  pub rest : new ≡ record old { desk = new.desk; records = with_planned silent old.records old.desk }

-- everything late expired, then everything that could be was served, and then asks were planned for what still waits
pub record HasTicked (silent : ℕ → Bool) (old : KeptValue) (was : SeatValue) (time : ℕ) (served : List Request)
    (ticked : Ticked) (new : KeptValue) (now : SeatValue) : Type 0 where
  pub in_time : KeptValue
  pub left : KeptValue
  pub expires : ExpiresAll old time ticked.expired in_time
  pub serves : ServesAll in_time was served left now
  pub counted : ticked.served ≡ length served
  pub plans : PlansAsks silent left ticked.asks new

-- the time was refused, and nothing was done
pub record TimeRefused (old : KeptValue) (was : SeatValue) (time : ℕ) (served : List Request) (fault : DeskError)
    (new : KeptValue) (now : SeatValue) : Type 0 where
  pub refuses : expire_fault old.desk time ≡ Some fault
  pub none : served ≡ []
  pub same_desk : new ≡ old
  pub same_seat : now ≡ was

-- everything late expired, and some requests were served before one was refused; nothing was planned
pub record StopsServing (old : KeptValue) (was : SeatValue) (time : ℕ) (served : List Request) (fault : DeskError)
    (new : KeptValue) (now : SeatValue) : Type 0 where
  pub expired : ℕ
  pub in_time : KeptValue
  pub expires : ExpiresAll old time expired in_time
  pub fails : ServingFails in_time was served fault new now

-- from old and was, the tick at this time, beside these silent sites, may serve these requests, return this, and lead
-- to new and now
abbrev pub TicksBeside : (ℕ → Bool) → KeptValue → SeatValue → ℕ → List Request → Result Ticked DeskError → KeptValue
    → SeatValue → Type 0
TicksBeside silent old was time served (Ok ticked) new now = HasTicked silent old was time served ticked new now
TicksBeside silent old was time served (Err fault) new now =
    TimeRefused old was time served fault new now ⊎ StopsServing old was time served fault new now

-- .. with no site silent
abbrev pub Ticks : KeptValue → SeatValue → ℕ → List Request → Result Ticked DeskError → KeptValue → SeatValue → Type 0
Ticks old was time served ticked new now = TicksBeside (λ j. false) old was time served ticked new now
