-- What the clients of a desk are told as spent: each entry that spends is told to one client, once, by the reply to its
-- `spend` or `take`, or to an `outcome` or `cancel` of its ticket; or a tick served it, and nobody asked for it yet.
use Rattle.std.specs.Prelude.{◌≡◌, ℕ, ◌+◌, ◌≤◌, ◌==◌, Bool, true, false, List, [], ◌∷◌, ◌++◌, Option, Result}
use Rattle.std.specs.Prelude.{count_by}
use Rattle.std.specs.Prelude.{if◌then◌else◌}
use Rattle.std.specs.List.{list_any}
use Rattle.rights_types.specs.Entries.{EntryValue, own}
use Rattle.rights_types.specs.Chains.{IsChain}
use Rattle.rights_types.specs.Messages.{AskValue}
use Rattle.rights_types.specs.declared.moves.Move.{Move}
use Rattle.rights_types.specs.declared.moves.Move.TheVariants.{Spend}
use Rattle.request_queue.specs.Queues.{IsQueue}
use Rattle.request_queue.specs.declared.request.Request.{Request}
use Rattle.request_queue.specs.declared.request.Outcome.{Outcome}
use Rattle.request_queue.specs.declared.request.Outcome.TheVariants.{Spent as WasSpent, Expired}
use Rattle.request_queue.specs.declared.request.Status.TheVariants.{Spent as SaysSpent}
use Rattle.transfer_manager.specs.declared.answer.AskAnswer.{AskAnswer}
use Rattle.site_core.specs.declared.desk.requests.Spending.TheVariants.{Spent}
use Rattle.site_core.specs.declared.fault.DeskError.{DeskError}
use Rattle.site_core.specs.Desks.{DeskValue}
use Rattle.site_core.specs.Calls.{DeskAnswers, DeskApplies}
use Rattle.apply_lanes.specs.Kepts.{KeptValue, SeatValue}
use Rattle.site_words.specs.declared.commands.DeskCommand.{DeskCommand}
use Rattle.site_node.specs.declared.reply.Reply.{Reply}
use Rattle.site_node.specs.declared.reply.Reply.TheVariants.{Spending, Outcome as Tells}
use Rattle.site_node.specs.declared.tick.Ticked.{Ticked}
use Rattle.site_node.specs.Acting.{Acts}
use Rattle.site_node.specs.Ticking.{TicksBeside}

-- ---- told, and not told yet

-- the number that a reply tells as that of an entry that spent
abbrev pub told_by : Reply → List ℕ
told_by (Spending (Spent number)) = number ∷ []
told_by (Tells (SaysSpent number)) = number ∷ []
told_by reply = []

abbrev pub is_spend : Move → Bool
is_spend (Spend n) = true
is_spend m = false

-- the numbers of the entries that spend, in order
abbrev pub spends_in : List EntryValue → List ℕ
spends_in [] = []
spends_in (e ∷ entries) = if list_any is_spend e.moves then own e ∷ spends_in entries else spends_in entries

-- the numbers of the entries that served spends whose outcome nobody has read
abbrev pub untold_in : List (ℕ × Outcome) → List ℕ
untold_in [] = []
untold_in ((ticket, WasSpent number) ∷ outcomes) = number ∷ untold_in outcomes
untold_in ((ticket, Expired) ∷ outcomes) = untold_in outcomes

abbrev pub times : ℕ → List ℕ → ℕ
times n numbers = count_by (λ k. k == n) numbers

-- each entry of the log that spends was told once or is untold, and nothing else was told
abbrev pub AreTold : List ℕ → DeskValue → Type 0
AreTold told d =
    (n : ℕ) → times n told + times n (untold_in d.queue.outcomes) ≡ times n (spends_in d.ledger.log.entries)

-- ---- the turns of all who use the desk

pub data DeskTurn : Type 0 where
  -- a client's command, and the reply that it got
  ByClient : DeskCommand → Reply → DeskTurn
  -- a tick, by the clock or a client
  ByTick : DeskTurn
  -- what a peer sent, or what is sent to one
  ByPeer : DeskTurn

-- no entry that spends was written, and no outcome made or read
pub record SpendsNothing (old new : DeskValue) : Type 0 where
  pub spends : spends_in new.ledger.log.entries ≡ spends_in old.ledger.log.entries
  pub outcomes : new.queue.outcomes ≡ old.queue.outcomes

-- what a peer makes a desk do spends nothing: its asks are answered, and its entries applied
pub record PeersSpendNothing (old new : DeskValue) : Type 0 where
  pub asks : (ask : AskValue) (answer : AskAnswer) (number : Option ℕ) → DeskAnswers old ask answer number new
      → SpendsNothing old new
  pub entries : (o : ℕ) (e : EntryValue) → DeskApplies old o e new → SpendsNothing old new

-- A command, for any seat, under a key or not: the keys may change besides. The repeat of a command is no such turn,
-- since it tells again what was told; or it is that of `outcome`, since it frees the slot of what it tells.
pub record ActsFor (old : KeptValue) (command : DeskCommand) (reply : Reply) (new : KeptValue) : Type 0 where
  pub was : SeatValue
  pub now : SeatValue
  pub begun : KeptValue
  pub done : KeptValue
  pub at_start : begun.desk ≡ old.desk
  pub queue : IsQueue begun.desk.queue
  pub acts : Acts begun was command reply done now
  pub at_end : new.desk ≡ done.desk

-- a tick, for any seat, beside any silent sites
pub record TicksFor (old new : KeptValue) : Type 0 where
  pub was : SeatValue
  pub now : SeatValue
  pub silent : ℕ → Bool
  pub time : ℕ
  pub served : List Request
  pub ticked : Result Ticked DeskError
  pub ticks : TicksBeside silent old was time served ticked new now

abbrev pub HasDeskTurn : KeptValue → DeskTurn → KeptValue → Type 0
HasDeskTurn old (ByClient command reply) new = ActsFor old command reply new
HasDeskTurn old ByTick new = TicksFor old new
HasDeskTurn old ByPeer new = SpendsNothing old.desk new.desk

-- these turns, one after another
abbrev pub HasDeskTurns : KeptValue → List DeskTurn → KeptValue → Type 0
HasDeskTurns old [] new = new ≡ old
HasDeskTurns old (turn ∷ turns) new = (mid : KeptValue) × HasDeskTurn old turn mid × HasDeskTurns mid turns new

abbrev pub told_in_turn : DeskTurn → List ℕ
told_in_turn (ByClient command reply) = told_by reply
told_in_turn ByTick = []
told_in_turn ByPeer = []

-- what all clients are told in these turns
abbrev pub told_in : List DeskTurn → List ℕ
told_in [] = []
told_in (turn ∷ turns) = told_in_turn turn ++ told_in turns

-- ---- the laws

abbrev pub ToldExactly : Type 0
ToldExactly = (told : List ℕ) (old : KeptValue) (turns : List DeskTurn) (new : KeptValue) → AreTold told old.desk
    → HasDeskTurns old turns new → AreTold (told ++ told_in turns) new.desk

-- nobody is told what another client was told, or the same twice
abbrev pub ToldOnce : Type 0
ToldOnce = (told : List ℕ) (d : DeskValue) → IsChain d.ledger.log.site d.ledger.log.entries → AreTold told d → (n : ℕ)
    → times n told + times n (untold_in d.queue.outcomes) ≤ 1
