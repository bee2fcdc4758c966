-- The results of an event: it is refused, happens, or ends the world.
use Rattle.std.proofs.Common.{◌≡◌, true, false, Some, None, Result, Ok, Err, refl}
use Rattle.world_core.specs.Values.{WorldValue}
use Rattle.world_core.specs.Worlds.{ended}
use Rattle.world_core.specs.Faults.{fault_of}
use Rattle.world_core.specs.Step.{wants_memory, Attempts, Happens, Step}
use Rattle.world_core.specs.declared.event.Event.{Event}
use Rattle.world_core.specs.declared.reply.Reply.{Reply}
use Rattle.world_core.specs.declared.fault.WorldError.{WorldError}
use Rattle.world_core.specs.declared.fault.WorldError.TheVariants.{Ended, NoSuchSite, NoPacket, NotForSite, Forged}
use Rattle.world_core.specs.declared.fault.WorldError.TheVariants.{Desk, OutOfMemory}

-- an attempt that did not run out of memory happened
attempt_happens : {A : Type 0} (w new : WorldValue) (event : Event A) (outcome : Result (Reply A) WorldError)
    → wants_memory outcome ≡ false → Attempts w event outcome new → Happens w event outcome new
attempt_happens w new event (Err OutOfMemory) other h = absurd cc
attempt_happens w new event (Err Ended) other h = h
attempt_happens w new event (Err NoSuchSite) other h = h
attempt_happens w new event (Err NoPacket) other h = h
attempt_happens w new event (Err NotForSite) other h = h
attempt_happens w new event (Err Forged) other h = h
attempt_happens w new event (Err (Desk f)) other h = h
attempt_happens w new event (Ok reply) other h = h

-- one that ran out of memory ends the world
attempt_ends : {A : Type 0} (w mid : WorldValue) (event : Event A) (outcome : Result (Reply A) WorldError)
    → wants_memory outcome ≡ true → Attempts w event outcome mid → Happens w event outcome (ended mid)
attempt_ends w mid event (Err OutOfMemory) wants h = (mid, h, refl)
attempt_ends w mid event (Err Ended) wants h = absurd cc
attempt_ends w mid event (Err NoSuchSite) wants h = absurd cc
attempt_ends w mid event (Err NoPacket) wants h = absurd cc
attempt_ends w mid event (Err NotForSite) wants h = absurd cc
attempt_ends w mid event (Err Forged) wants h = absurd cc
attempt_ends w mid event (Err (Desk f)) wants h = absurd cc
attempt_ends w mid event (Ok reply) wants h = absurd cc

pub step_refused : {A : Type 0} (w : WorldValue) (event : Event A) (fault : WorldError)
    → fault_of w event ≡ Some fault → Step w event (Err fault) w
unfolding Step
step_refused w event fault e = rw e (refl, refl)

pub step_happens : {A : Type 0} (w new : WorldValue) (event : Event A) (outcome : Result (Reply A) WorldError)
    → fault_of w event ≡ None → wants_memory outcome ≡ false → Attempts w event outcome new
    → Step w event outcome new
unfolding Step
step_happens w new event outcome e other h = rw e (attempt_happens w new event outcome other h)

pub step_ends : {A : Type 0} (w mid : WorldValue) (event : Event A) (outcome : Result (Reply A) WorldError)
    → fault_of w event ≡ None → wants_memory outcome ≡ true → Attempts w event outcome mid
    → Step w event outcome (ended mid)
unfolding Step
step_ends w mid event outcome e wants h = rw e (attempt_ends w mid event outcome wants h)
