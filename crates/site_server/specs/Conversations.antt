-- The lines of a client and their replies, as the turns that its seat counts.
use Rattle.std.specs.Prelude.{◌≡◌, ◌⊎◌, ℕ, List, [], ◌∷◌, ◌++◌, Option, Some, Result, Ok, Err}
use Rattle.request_queue.specs.declared.request.Request.{Request}
use Rattle.site_core.specs.declared.fault.DeskError.{DeskError}
use Rattle.site_core.specs.declared.fault.DeskError.TheVariants.{OutOfMemory}
use Rattle.apply_lanes.specs.Kepts.{SeatValue}
use Rattle.site_words.specs.declared.commands.BareCommand.TheVariants.{AtDesk, Tick}
use Rattle.site_words.specs.declared.commands.SiteCommand.{SiteCommand}
use Rattle.site_words.specs.declared.commands.SiteCommand.TheVariants.{Bare, Keyed}
use Rattle.site_node.specs.Texts.{reply_text, tick_text}
use Rattle.site_node.specs.Confirmed.{Turn, HasTurns, CountsConfirmed}
use Rattle.site_node.specs.Confirmed.{ACommand, ATick}
use Rattle.site_node.specs.declared.reply.Reply.{Reply}
use Rattle.site_node.specs.declared.tick.Ticked.{Ticked}
use Rattle.site_server.specs.Replying.{asked}

-- the reply to a tick tells what was done at the desk, and how many lines found room; or that memory ran out when lines
-- were sent; or why a part of it was refused at the desk
abbrev pub TellsTick : Result Ticked DeskError → List ℕ → Type 0
TellsTick (Ok ticked) text = ((sent : ℕ) × (text ≡ tick_text (Ok (ticked, sent)))) ⊎ (text ≡ tick_text (Err OutOfMemory))
TellsTick (Err fault) text = text ≡ tick_text (Err fault)

-- A line is one turn if the desk carries out its command or it is a tick; otherwise it is none. A command under a key is
-- one if it is carried out, and none if the reply is to its repeat, or it is refused for its key.
abbrev pub IsTurn : Option SiteCommand → List ℕ → List Turn → Type 0
IsTurn (Some (Bare (AtDesk command))) text turns = (reply : Reply) × (turns ≡ ACommand command reply ∷ [])
    × (text ≡ reply_text reply)
IsTurn (Some (Keyed key command)) text turns =
    (reply : Reply) × ((turns ≡ ACommand command reply ∷ []) ⊎ (turns ≡ [])) × (text ≡ reply_text reply)
IsTurn (Some (Bare (Tick time))) text turns =
    (served : List Request) × (ticked : Result Ticked DeskError) × (turns ≡ ATick time served ticked ∷ [])
    × TellsTick ticked text
IsTurn command text turns = turns ≡ []

-- the turns of these lines; the text is their replies, each with its line feed
abbrev pub AreTurns : List (List ℕ) → List ℕ → List Turn → Type 0
AreTurns [] text turns = (text ≡ []) × (turns ≡ [])
AreTurns (line ∷ lines) text turns =
    (reply : List ℕ) × (more : List ℕ) × (first : List Turn) × (rest : List Turn)
    × ((time : Option ℕ) × IsTurn (asked time line) reply first) × AreTurns lines more rest
    × (text ≡ (reply ++ 10 ∷ []) ++ more)
    × (turns ≡ first ++ rest)

-- what the replies to these lines report to the client as issued and as spent is what its seat counts in addition
pub record CountsReplies (was : SeatValue) (lines : List (List ℕ)) (text : List ℕ) (now : SeatValue) : Type 0 where
  pub turns : List Turn
  pub are_turns : AreTurns lines text turns
  pub has_turns : HasTurns was turns now
  pub counted : CountsConfirmed was turns now
