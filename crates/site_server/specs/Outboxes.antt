-- What is put into the outboxes of a site's peers. A thread notes each outbox that it holds, before and after.
use Rattle.std.specs.Prelude.{◌≡◌, ℕ, ◌+◌, ◌≤◌, ◌⊎◌, Bool, List, [], ◌∷◌, ◌++◌, Some, Result, IfOk, OnErr}
use Rattle.std.specs.List.{slice_get}
use Rattle.rights_types.specs.declared.limits.TheConstants.{MAX_NUMBER}
use Rattle.rights_types.specs.declared.fault.OutOfMemory.{OutOfMemory}
use Rattle.apply_lanes.specs.Names.{DeskId}
use Rattle.apply_lanes.specs.Kepts.{KeptValue, IsKept}
use Rattle.peer_links.specs.Outboxes.{Waiting, PutsIf}
use Rattle.site_node.specs.Sending.{OffersDue, StopsShort}
use Rattle.site_sockets.specs.declared.peer.PeerState.{PeerState}

-- an outbox under its lock: whose it is, and the lines that wait in it
pub record LockedValue : Type 0 where
  pub site : ℕ
  pub waiting : Waiting

-- a line is put, or finds no room
pub record PutsLine (old : LockedValue) (line : List ℕ) (room : Bool) (new : LockedValue) : Type 0 where
  pub same : new.site ≡ old.site
  pub puts : PutsIf old.waiting line room new.waiting

-- ---- answers, line by line

-- the outbox of one peer, for one thread: whose it is, the outbox at the beginning and at the end of each time that the
-- thread held it, and the lines that it wrote at once
pub record OutboxValue : Type 0 where
  pub site : ℕ
  pub holds : List LockedValue
  pub written : List (List ℕ)

-- the outbox was held once more, and the line was put there, or found no room; nothing else was put or written
pub record OffersTo (old : OutboxValue) (line : List ℕ) (room : Bool) (new : OutboxValue) : Type 0 where
  pub before : LockedValue
  pub after : LockedValue
  pub whose : before.site ≡ old.site
  pub puts : PutsLine before line room after
  pub one : new ≡ record old { holds = old.holds ++ before ∷ after ∷ [] }

-- a query was written at once, or else offered in this way
abbrev pub SendsQuery : OutboxValue → List ℕ → OutboxValue → Type 0
SendsQuery old line new =
    (new ≡ record old { written = old.written ++ line ∷ [] }) ⊎ (room : Bool) × OffersTo old line room new

-- ---- what a tick sends

-- the peer's outbox was held once more, and all that is due to the peer was offered to it; so many lines found room and
-- were put, in order, and no others
pub record SendsAll (peer : PeerState) (was : List LockedValue) (old : KeptValue) (sent : ℕ) (now : List LockedValue)
    (new : KeptValue) : Type 0 where
  pub before : LockedValue
  pub after : LockedValue
  pub whose : before.site ≡ peer.site
  pub one : now ≡ was ++ before ∷ after ∷ []
  pub offers : OffersDue PutsLine old peer.site before sent new after

-- a front of it was, and then memory was wanted that there was not
pub record SendsFront (peer : PeerState) (was : List LockedValue) (old : KeptValue) (now : List LockedValue)
    (new : KeptValue) : Type 0 where
  pub before : LockedValue
  pub after : LockedValue
  pub whose : before.site ≡ peer.site
  pub one : now ≡ was ++ before ∷ after ∷ []
  pub stops : StopsShort PutsLine old peer.site before new after

-- the one or the other
pub record SendsDue (peer : PeerState) (was : List LockedValue) (old : KeptValue) (result : Result ℕ OutOfMemory)
    (now : List LockedValue) (new : KeptValue) : Type 0 where
  pub ok : IfOk result (λ sent. SendsAll peer was old sent now new)
  pub err : OnErr result (SendsFront peer was old now new)
  pub range : IfOk result (λ sent. sent ≤ MAX_NUMBER + 2)

-- the turns of a thread that sends, and the outboxes that it held
pub record SendingValue : Type 0 where
  pub turns : List KeptValue
  pub holds : List LockedValue

-- the same for the peer at this index, in one turn at the desk
pub record SendsToPeer (id : DeskId) (peers : List PeerState) (index : ℕ) (was : SendingValue) (sent : ℕ)
    (now : SendingValue) : Type 0 where
  pub peer : PeerState
  pub listed : slice_get peers index ≡ Some peer
  pub old : KeptValue
  pub new : KeptValue
  pub one : now.turns ≡ was.turns ++ old ∷ new ∷ []
  pub valid : IsKept id old
  pub sends : SendsAll peer was.holds old sent now.holds new

pub record StopsAtOutbox (id : DeskId) (peers : List PeerState) (index : ℕ) (was now : SendingValue) : Type 0 where
  pub peer : PeerState
  pub listed : slice_get peers index ≡ Some peer
  pub old : KeptValue
  pub new : KeptValue
  pub one : now.turns ≡ was.turns ++ old ∷ new ∷ []
  pub valid : IsKept id old
  pub sends : SendsFront peer was.holds old now.holds new
