-- The turns of commands under keys, as a seat counts them.
use Rattle.std.proofs.Common.{◌≡◌, ◌⊎◌, ℕ, suc, zero, Bool, true, false, List, [], ◌∷◌, Option, Some, None, inl, inr, refl, ap}
use Rattle.std.specs.Prelude.{nat_lt}
use Rattle.command_keys.specs.Keys.{outcome_of}
use Rattle.command_keys.specs.declared.outcome.Outcome.{Outcome}
use Rattle.apply_lanes.specs.Names.{DeskId}
use Rattle.apply_lanes.specs.Kepts.{KeptValue, SeatValue}
use Rattle.apply_lanes.specs.Keeping.{with_room}
use Rattle.site_words.specs.declared.commands.DeskCommand.{DeskCommand}
use Rattle.site_node.specs.Confirmed.{Turn, ACommand, HasTurns}
use Rattle.site_node.specs.Keyed.{ActsBy, ActsIf, FreesBy, FreesIf, is_repeat, ticket_of}
use Rattle.site_node.specs.declared.reply.Reply.{Reply}
use Rattle.desk_turns.specs.Seated.{SeatedValue, ActsKeyedAtDesk}
use Rattle.site_server.specs.Settling.{AsksAgain}

-- ---- one command under a key

-- a repeat leaves what the seat counts unchanged
frees_by : (n : ℕ) (old : KeptValue) (was : SeatValue) (new : KeptValue) (now : SeatValue) → FreesBy n old was new now
    → now ≡ was
frees_by zero old was new now h = h.1
frees_by (suc n) old was new now h = h.1.same_seat

frees_if : (b : Bool) (outcome : Outcome) (old : KeptValue) (was : SeatValue) (new : KeptValue) (now : SeatValue)
    → FreesIf b outcome old was new now → now ≡ was
frees_if true outcome old was new now h = frees_by (ticket_of outcome) old was new now h
frees_if false outcome old was new now h = h.1

-- the command was carried out, in a turn with this reply, or it was not, and nothing is counted
record Counted (was : SeatValue) (command : DeskCommand) (reply : Reply) (now : SeatValue) : Type 0 where
  turns : List Turn
  are : (turns ≡ ACommand command reply ∷ []) ⊎ (turns ≡ [])
  has : HasTurns was turns now

none_counted : (was : SeatValue) (command : DeskCommand) (reply : Reply) (now : SeatValue) → now ≡ was
    → Counted was command reply now
none_counted was command reply now same = record { turns = []; are = inr refl; has = same }

counted_by : (outcome : Option Outcome) (old : KeptValue) (was : SeatValue) (key : List ℕ) (command : DeskCommand)
    (reply : Reply) (new : KeptValue) (now : SeatValue) → ActsBy outcome old was key command reply new now
    → Counted was command reply now
counted_by (Some outcome) old was key command reply new now h =
    none_counted was command reply now (frees_if (is_repeat outcome command) outcome old was new now h.1)
counted_by None old was key command reply new now (inl first) = record {
  turns = ACommand command reply ∷ [];
  are = inl refl;
  has = (now, (with_room old first.book, first.done, first.acts), refl);
}
counted_by None old was key command reply new now (inr lacks) = none_counted was command reply now lacks.same_seat

counted_if : (b : Bool) (old : KeptValue) (was : SeatValue) (key : List ℕ) (command : DeskCommand) (reply : Reply)
    (new : KeptValue) (now : SeatValue) → ActsIf b old was key command reply new now → Counted was command reply now
counted_if false old was key command reply new now h = none_counted was command reply now h.2
counted_if true old was key command reply new now h =
    counted_by (outcome_of h.0.keys.keys key) h.0 was key command reply new now h.2

-- the turns of a command under a key
pub keyed_turns : (id : DeskId) (was : SeatedValue) (key : List ℕ) (command : DeskCommand) (reply : Reply)
    (now : SeatedValue) → ActsKeyedAtDesk id was key command reply now
    → (turns : List Turn) × ((turns ≡ ACommand command reply ∷ []) ⊎ (turns ≡ [])) × HasTurns was.told turns now.told
keyed_turns id was key command reply now h =
    let c = counted_if (nat_lt 0 h.old.keys.keys.cap) h.old was.told key command reply h.new now.told h.acts in
    (c.turns, c.are, c.has)

-- .. and of its repeat, where it is asked again
pub again_turns : (b : Bool) (id : DeskId) (was : SeatedValue) (key : List ℕ) (command : DeskCommand) (waited told : Reply)
    (now : SeatedValue) → AsksAgain b id was key command waited told now
    → (turns : List Turn) × ((turns ≡ ACommand command told ∷ []) ⊎ (turns ≡ [])) × HasTurns was.told turns now.told
again_turns true id was key command waited told now h = keyed_turns id was key command told now h
again_turns false id was key command waited told now h = ([], inr refl, ap (λ (s : SeatedValue). s.told) h.1)
