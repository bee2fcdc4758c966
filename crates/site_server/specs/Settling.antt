-- What a client gets that waits for the outcome of its spend.
use Rattle.std.specs.Prelude.{◌≡◌, ◌⊎◌, ℕ, suc, zero, Bool, true, false, List}
use Rattle.request_queue.specs.declared.request.Status.TheVariants.{Waiting, Unknown}
use Rattle.site_core.specs.declared.desk.requests.Spending.TheVariants.{Queued}
use Rattle.apply_lanes.specs.Names.{DeskId}
use Rattle.refusals.specs.Refusals.{LineAnswer}
use Rattle.site_words.specs.declared.commands.DeskCommand.{DeskCommand}
use Rattle.site_words.specs.declared.commands.DeskCommand.TheVariants.{Outcome as AsksOutcome, Cancel as Cancels}
use Rattle.site_node.specs.Texts.{reply_text, reply_answered}
use Rattle.site_node.specs.declared.reply.Reply.{Reply}
use Rattle.site_node.specs.declared.reply.Reply.TheVariants.{Spending, Outcome}
use Rattle.desk_turns.specs.Seated.{SeatedValue, ActsAtDesk, ActsKeyedAtDesk}

-- the reply says that a spend still waits
abbrev pub still_waits : Reply → Bool
still_waits (Outcome Waiting) = true
still_waits reply = false

-- in one turn, the desk reported that the spend with this ticket waits
pub record ToldWaiting (id : DeskId) (was : SeatedValue) (ticket : ℕ) (now : SeatedValue) : Type 0 where
  pub reply : Reply
  pub at_desk : ActsAtDesk id was (AsksOutcome ticket) reply now
  pub waits : still_waits reply ≡ true

-- the same in this many turns, one after another
abbrev pub WaitsFor : DeskId → ℕ → SeatedValue → ℕ → SeatedValue → Type 0
WaitsFor id zero was ticket now = now ≡ was
WaitsFor id (suc n) was ticket now = (mid : SeatedValue) × WaitsFor id n was ticket mid × ToldWaiting id mid ticket now

pub record HasWaited (id : DeskId) (was : SeatedValue) (ticket : ℕ) (now : SeatedValue) : Type 0 where
  pub times : ℕ
  pub waits : WaitsFor id times was ticket now

-- after such turns, in one more, the desk reported the outcome of the spend with this ticket: it no longer waits
pub record TellsOutcome (id : DeskId) (was : SeatedValue) (ticket : ℕ) (settled : Reply)
    (now : SeatedValue) : Type 0 where
  pub mid : SeatedValue
  pub waited : HasWaited id was ticket mid
  pub at_desk : ActsAtDesk id mid (AsksOutcome ticket) settled now
  pub decided : still_waits settled ≡ false

-- after such turns, the site has ended, and the client gets that its spend is queued
pub record StillQueued (HasEnded : Type 0) (id : DeskId) (was : SeatedValue) (ticket : ℕ) (settled : Reply)
    (now : SeatedValue) : Type 0 where
  pub waited : HasWaited id was ticket now
  pub ended : HasEnded
  pub queued : settled ≡ Spending (Queued ticket)

-- after such turns, the client has left, and in one more the desk ended the wait of its spend
pub record EndsWait (HasLeft : Type 0) (id : DeskId) (was : SeatedValue) (ticket : ℕ) (settled : Reply)
    (now : SeatedValue) : Type 0 where
  pub mid : SeatedValue
  pub waited : HasWaited id was ticket mid
  pub left : HasLeft
  pub at_desk : ActsAtDesk id mid (Cancels ticket) settled now

-- what a client that waits gets instead of a reply: for a queued spend its outcome; or, if the site has ended, that
-- it is queued; or, if the client has left, what became of it where it was cancelled; otherwise the reply itself
abbrev pub Settles : Type 0 → Type 0 → DeskId → SeatedValue → Reply → Reply → SeatedValue → Type 0
Settles HasEnded HasLeft id was (Spending (Queued ticket)) settled now =
    TellsOutcome id was ticket settled now ⊎ StillQueued HasEnded id was ticket settled now
    ⊎ EndsWait HasLeft id was ticket settled now
Settles HasEnded HasLeft id was reply settled now = (settled ≡ reply) × (now ≡ was)

-- the desk carried out the command in one turn, and this answer tells what the client finally gets
pub record SettlesCommand (HasEnded HasLeft : Type 0) (id : DeskId) (was : SeatedValue) (command : DeskCommand)
    (answer : LineAnswer) (now : SeatedValue) : Type 0 where
  pub reply : Reply
  pub settled : Reply
  pub half : SeatedValue
  pub at_desk : ActsAtDesk id was command reply half
  pub settles : Settles HasEnded HasLeft id half reply settled now
  pub says : answer.text ≡ reply_text settled
  pub how : answer.how ≡ reply_answered settled

-- the reply says that there is no outcome, as where somebody else was told it
abbrev pub is_unknown : Reply → Bool
is_unknown (Outcome Unknown) = true
is_unknown reply = false

-- then the command under its key is asked again, in one turn; any other reply is the client's
abbrev pub AsksAgain : Bool → DeskId → SeatedValue → List ℕ → DeskCommand → Reply → Reply → SeatedValue → Type 0
AsksAgain true id was key command waited told now = ActsKeyedAtDesk id was key command told now
AsksAgain false id was key command waited told now = (told ≡ waited) × (now ≡ was)

-- the same for a command under a key
pub record SettlesKeyedCommand (HasEnded HasLeft : Type 0) (id : DeskId) (was : SeatedValue) (key : List ℕ)
    (command : DeskCommand) (answer : LineAnswer) (now : SeatedValue) : Type 0 where
  pub reply : Reply
  pub waited : Reply
  pub told : Reply
  pub half : SeatedValue
  pub last : SeatedValue
  pub at_desk : ActsKeyedAtDesk id was key command reply half
  pub settles : Settles HasEnded HasLeft id half reply waited last
  pub again : AsksAgain (is_unknown waited) id last key command waited told now
  pub says : answer.text ≡ reply_text told
  pub how : answer.how ≡ reply_answered told
