-- What a client was told, over all its turns, and what its seat counts.
use Rattle.std.specs.Prelude.{◌≡◌, ℕ, ◌+◌, List, [], ◌∷◌, sum_by, Result}
use Rattle.request_queue.specs.declared.request.Request.{Request}
use Rattle.request_queue.specs.Queues.{total_of}
use Rattle.site_core.specs.declared.desk.requests.Spending.TheVariants.{Spent}
use Rattle.site_core.specs.declared.fault.DeskError.{DeskError}
use Rattle.apply_lanes.specs.Kepts.{KeptValue, SeatValue}
use Rattle.site_words.specs.declared.commands.DeskCommand.{DeskCommand}
use Rattle.site_words.specs.declared.commands.DeskCommand.TheVariants.{Issue, Spend, Take}
use Rattle.site_node.specs.declared.reply.Reply.{Reply}
use Rattle.site_node.specs.declared.reply.Reply.TheVariants.{Number, Spending}
use Rattle.site_node.specs.declared.tick.Ticked.{Ticked}
use Rattle.site_node.specs.Acting.{Acts}
use Rattle.site_node.specs.Ticking.{Ticks}

-- a turn of a client: a command and its reply; or a tick at a time, with the requests that it served and the result
pub data Turn : Type 0 where
  ACommand : DeskCommand → Reply → Turn
  ATick : ℕ → List Request → Result Ticked DeskError → Turn

-- the rights that the client was told as issued: those of an `issue` that was answered by a number
abbrev pub confirmed_as_issued : DeskCommand → Reply → ℕ
confirmed_as_issued (Issue amount) (Number number) = amount
confirmed_as_issued command reply = 0

abbrev pub issued_in : Turn → ℕ
issued_in (ACommand command reply) = confirmed_as_issued command reply
issued_in (ATick time served ticked) = 0

-- the rights that the client was told as spent: those of a `spend` or `take` that was answered by `spent`, and of the
-- requests that a tick served
abbrev pub confirmed_as_spent : DeskCommand → Reply → ℕ
confirmed_as_spent (Spend amount deadline latest) (Spending (Spent number)) = amount
confirmed_as_spent (Take amount) (Spending (Spent number)) = amount
confirmed_as_spent command reply = 0

abbrev pub spent_in : Turn → ℕ
spent_in (ACommand command reply) = confirmed_as_spent command reply
spent_in (ATick time served ticked) = total_of served

-- the turn leads from one value of the seat to another, at any desk: other clients and peers change the desk between
-- two turns
abbrev pub HasTurn : SeatValue → Turn → SeatValue → Type 0
HasTurn was (ACommand command reply) now = (old : KeptValue) × (new : KeptValue) × Acts old was command reply new now
HasTurn was (ATick time served ticked) now =
    (old : KeptValue) × (new : KeptValue) × Ticks old was time served ticked new now

-- all turns of a client, one after another
abbrev pub HasTurns : SeatValue → List Turn → SeatValue → Type 0
HasTurns was [] now = now ≡ was
HasTurns was (turn ∷ turns) now = (half : SeatValue) × HasTurn was turn half × HasTurns half turns now

-- what was added to the seat's count is what the client was told
pub record CountsConfirmed (was : SeatValue) (turns : List Turn) (now : SeatValue) : Type 0 where
  pub issued : now.issued ≡ was.issued + sum_by issued_in turns
  pub spent : now.spent + now.served ≡ was.spent + was.served + sum_by spent_in turns
