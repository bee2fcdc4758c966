-- A run of a world as one of the protocol.
use Rattle.std.specs.Prelude.{ℕ, ◌≤◌, List, Result}
use Rattle.rights_types.specs.declared.limits.TheConstants.{MIN_SITES, MAX_SITES}
use Rattle.rights_protocol.specs.Changes.{Change, Runs as ChangesRun}
use Rattle.world_core.specs.Values.{WorldValue}
use Rattle.world_core.specs.Worlds.{start, lists_of}
use Rattle.world_core.specs.Step.{Runs}
use Rattle.world_core.specs.declared.event.Event.{Event}
use Rattle.world_core.specs.declared.reply.Reply.{Reply}
use Rattle.world_core.specs.declared.fault.WorldError.{WorldError}

-- changes of the protocol, one after another, lead from the lists of the old world to those of the new one
abbrev pub Refines : WorldValue → WorldValue → Type 0
Refines old new = (changes : List Change) × ChangesRun (lists_of old) changes (lists_of new)

-- events lead from the old world to the new one (the values of events and replies do not depend on where they are
-- stored, so the type that represents this is arbitrary)
pub record Later (old new : WorldValue) : Type 0 where
  pub events : List (Event ℕ)
  pub outcomes : List (Result (Reply ℕ) WorldError)
  pub run : Runs old events outcomes new

-- events lead from the start of n sites to this world
pub record Reached (n : ℕ) (w : WorldValue) : Type 0 where
  pub some : MIN_SITES ≤ n
  pub few : n ≤ MAX_SITES
  pub later : Later (start n) w
