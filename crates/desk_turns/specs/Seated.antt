-- What is done for a seat, each time in one turn at the desk.
use Rattle.std.specs.Prelude.{◌≡◌, ℕ, Bool, List, [], ◌∷◌, ◌++◌, Result}
use Rattle.site_core.specs.declared.fault.DeskError.{DeskError}
use Rattle.apply_lanes.specs.Names.{DeskId}
use Rattle.apply_lanes.specs.Kepts.{KeptValue, SeatValue, IsKept}
use Rattle.site_words.specs.declared.commands.DeskCommand.{DeskCommand}
use Rattle.site_node.specs.Acting.{Acts}
use Rattle.site_node.specs.Keyed.{ActsKeyed}
use Rattle.site_node.specs.declared.reply.Reply.{Reply}
use Rattle.site_node.specs.declared.tick.Ticked.{Ticked}
use Rattle.site_core.specs.declared.fault.ReplayError.{ReplayError}
use Rattle.rights_types.specs.Entries.{EntryValue}
use Rattle.desk_turns.specs.Journaling.{ReplaysOwn}
use Rattle.desk_turns.specs.Turns.{ServesDue}

-- what a seat counts, and the states of the desk before and after each turn that was taken for it
pub record SeatedValue : Type 0 where
  pub told : SeatValue
  pub states : List KeptValue

-- in one turn, the desk carried out the command, and this is the reply
pub record ActsAtDesk (id : DeskId) (was : SeatedValue) (command : DeskCommand) (reply : Reply)
    (now : SeatedValue) : Type 0 where
  pub old : KeptValue
  pub new : KeptValue
  pub one : now.states ≡ was.states ++ old ∷ new ∷ []
  pub valid : IsKept id old
  pub acts : Acts old was.told command reply new now.told

-- in one turn, the desk carried out the command under this key, or its repeat, and this is the reply
pub record ActsKeyedAtDesk (id : DeskId) (was : SeatedValue) (key : List ℕ) (command : DeskCommand) (reply : Reply)
    (now : SeatedValue) : Type 0 where
  pub old : KeptValue
  pub new : KeptValue
  pub one : now.states ≡ was.states ++ old ∷ new ∷ []
  pub valid : IsKept id old
  pub acts : ActsKeyed old was.told key command reply new now.told

-- in one turn, everything due at this time, beside these silent sites, was done at the desk
pub record TicksAtDesk (silent : ℕ → Bool) (id : DeskId) (was : SeatedValue) (time : ℕ)
    (ticked : Result Ticked DeskError) (now : SeatedValue) : Type 0 where
  pub old : KeptValue
  pub new : KeptValue
  pub one : now.states ≡ was.states ++ old ∷ new ∷ []
  pub valid : IsKept id old
  pub does : ServesDue silent old was.told time ticked new now.told

-- in one turn, the entry of the site was written again, or refused
pub record ReplaysAtDesk (id : DeskId) (e : EntryValue) (was : SeatedValue) (told : Result (Unit {0}) ReplayError)
    (now : SeatedValue) : Type 0 where
  pub old : KeptValue
  pub new : KeptValue
  pub one : now.states ≡ was.states ++ old ∷ new ∷ []
  pub valid : IsKept id old
  pub replays : ReplaysOwn e was.told old told now.told new
