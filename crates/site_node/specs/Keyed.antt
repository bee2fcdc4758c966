-- The effect of each command under a key, and its reply.
use Rattle.std.specs.Prelude.{◌≡◌, ◌⊎◌, ℕ, zero, suc, ◌==◌, ◌&&◌, nat_lt, Bool, true, false, List, [], ◌∷◌, ◌++◌, Option, Some, None}
use Rattle.request_queue.specs.declared.request.Status.{Status}
use Rattle.request_queue.specs.declared.request.Status.TheVariants.{Expired as IsExpired}
use Rattle.site_core.specs.declared.desk.requests.Spending.TheVariants.{Spent, Queued}
use Rattle.site_core.specs.declared.fault.DeskError.TheVariants.{OutOfMemory}
use Rattle.command_keys.specs.Keys.{outcome_of, remembered, Settles}
use Rattle.command_keys.specs.Books.{KeyBookValue, with_record}
use Rattle.command_keys.specs.declared.outcome.Effect.{Effect}
use Rattle.command_keys.specs.declared.outcome.Effect.TheVariants as effect
use Rattle.command_keys.specs.declared.outcome.Written.{Written}
use Rattle.command_keys.specs.declared.outcome.Outcome.{Outcome}
use Rattle.command_keys.specs.declared.outcome.Outcome.TheVariants.{Wrote, Waits, Expired}
use Rattle.apply_lanes.specs.Kepts.{KeptValue, SeatValue}
use Rattle.apply_lanes.specs.Keeping.{with_room}
use Rattle.site_words.specs.declared.commands.DeskCommand.{DeskCommand}
use Rattle.site_words.specs.declared.commands.DeskCommand.TheVariants.{Issue, Give, Spend, Take, Close}
use Rattle.site_words.specs.declared.commands.DeskCommand.TheVariants.{Outcome as AnOutcome, Cancel as ACancel}
use Rattle.site_node.specs.Acting.{Acts, ActsOutcome}
use Rattle.site_node.specs.declared.reply.Reply.{Reply}
use Rattle.site_node.specs.declared.reply.Reply.TheVariants.{Number, Spending, Outcome as Tells, Refused, KeyRefused, KeyReused}

-- ---- what a command does

-- what it does if it is carried out, if it writes an entry
abbrev pub effect_of : DeskCommand → Option Effect
effect_of (Issue amount) = Some (effect.Issue amount)
effect_of (Give peer amount) = Some (effect.Give peer amount)
effect_of (Spend amount deadline latest) = Some (effect.Spend amount)
effect_of (Take amount) = Some (effect.Spend amount)
effect_of (AnOutcome ticket) = None
effect_of (ACancel ticket) = None
effect_of (Close heir) = Some effect.Close

-- what the command did, or would have done, that ended so
abbrev pub effect_in : Outcome → Effect
effect_in (Wrote entry) = entry.effect
effect_in (Waits ticket amount) = effect.Spend amount
effect_in (Expired ended) = effect.Spend ended.amount

abbrev pub same_effect : Effect → Effect → Bool
same_effect (effect.Issue m) (effect.Issue n) = m == n
same_effect (effect.Give j m) (effect.Give k n) = (j == k) && (m == n)
same_effect (effect.Spend m) (effect.Spend n) = m == n
same_effect effect.Close effect.Close = true
same_effect one other = false

-- a command with this effect is the one that ended so
abbrev pub is_of : Option Effect → Outcome → Bool
is_of (Some one) outcome = same_effect one (effect_in outcome)
is_of None outcome = false

-- ---- a repeat

-- the reply to a command that wrote the entry of this number
abbrev pub reply_as : DeskCommand → ℕ → Reply
reply_as (Spend amount deadline latest) number = Spending (Spent number)
reply_as (Take amount) number = Spending (Spent number)
reply_as command number = Number number

-- the reply to a repeat of the command that ended so
abbrev pub reply_of : Outcome → DeskCommand → Reply
reply_of (Wrote entry) command = reply_as command entry.number
reply_of (Waits ticket amount) command = Spending (Queued ticket)
reply_of (Expired ended) command = Tells IsExpired

-- the reply to a command under the key of the one that ended so: that of its repeat, or that the key is another's
abbrev pub repeat_by : Bool → Outcome → DeskCommand → Reply
repeat_by true outcome command = reply_of outcome command
repeat_by false outcome command = KeyReused

abbrev pub is_repeat : Outcome → DeskCommand → Bool
is_repeat outcome command = is_of (effect_of command) outcome

abbrev pub repeat_of : Outcome → DeskCommand → Reply
repeat_of outcome command = repeat_by (is_repeat outcome command) outcome command

-- the ticket of a spend that waited, and waits no longer; 0 if there is none
abbrev pub ticket_of : Outcome → ℕ
ticket_of (Wrote entry) = entry.ticket
ticket_of (Waits ticket amount) = 0
ticket_of (Expired ended) = ended.ticket

-- the outcome of that spend is told with the reply, which frees its slot as `outcome` does
abbrev pub FreesSlot : ℕ → KeptValue → SeatValue → KeptValue → SeatValue → Type 0
FreesSlot ticket old was new now = (status : Status) × ActsOutcome old was ticket (Tells status) new now

-- by whether there is such a spend
abbrev pub FreesBy : ℕ → KeptValue → SeatValue → KeptValue → SeatValue → Type 0
FreesBy zero old was new now = (new ≡ old) × (now ≡ was)
FreesBy (suc n) old was new now = FreesSlot (suc n) old was new now

-- .. and the command is its repeat
abbrev pub FreesIf : Bool → Outcome → KeptValue → SeatValue → KeptValue → SeatValue → Type 0
FreesIf true outcome old was new now = FreesBy (ticket_of outcome) old was new now
FreesIf false outcome old was new now = (new ≡ old) × (now ≡ was)

-- ---- the first time

abbrev pub wrote : ℕ → Effect → Outcome
wrote number effect = Wrote (record { number = number; effect = effect; ticket = 0 })

abbrev pub spend_in : Effect → Option ℕ
spend_in (effect.Spend amount) = Some amount
spend_in other = None

abbrev pub waiting_by : ℕ → Option ℕ → Option Outcome
waiting_by ticket (Some amount) = Some (Waits ticket amount)
waiting_by ticket None = None

-- what is remembered of a command with this effect and this reply: which entry it wrote, or that it waits; nothing if it
-- was refused
abbrev pub noted_by : Option Effect → Reply → Option Outcome
noted_by (Some one) (Number number) = Some (wrote number one)
noted_by (Some one) (Spending (Spent number)) = Some (wrote number one)
noted_by (Some one) (Spending (Queued ticket)) = waiting_by ticket (spend_in one)
noted_by one reply = None

abbrev pub noted : DeskCommand → Reply → Option Outcome
noted command reply = noted_by (effect_of command) reply

-- this is remembered of the key, and recorded if the command wrote an entry; nothing else changes
abbrev pub Notes : Option Outcome → KeptValue → List ℕ → KeptValue → Type 0
Notes (Some (Wrote entry)) done key new =
    new ≡ record done {
      keys = record done.keys {
        keys = record (remembered done.keys.keys key entry) { room = new.keys.keys.room };
        unrecorded = with_record done.keys key entry.number;
        room = new.keys.room;
      };
    }
Notes (Some (Waits ticket amount)) done key new =
    new ≡ record done {
      keys = record done.keys {
        keys = record done.keys.keys {
          waiting = done.keys.keys.waiting ++ record { key = key; ticket = ticket; amount = amount } ∷ [];
          room = new.keys.keys.room;
        };
        room = new.keys.room;
      };
    }
Notes outcome done key new = new ≡ done

-- there was memory for the key: the command was carried out, and what became of it is remembered
pub record CarriesOutFirst (old : KeptValue) (was : SeatValue) (key : List ℕ) (command : DeskCommand) (reply : Reply)
    (new : KeptValue) (now : SeatValue) : Type 0 where
  pub book : KeyBookValue
  pub done : KeptValue
  pub acts : Acts (with_room old book) was command reply done now
  pub notes : Notes (noted command reply) done key new

-- there was no memory for the key, and nothing changed
pub record LacksMemory (old : KeptValue) (was : SeatValue) (reply : Reply) (new : KeptValue) (now : SeatValue) : Type 0 where
  pub refuses : reply ≡ Refused OutOfMemory
  pub same_desk : new ≡ with_room old new.keys
  pub same_seat : now ≡ was

abbrev pub ActsFirst : KeptValue → SeatValue → List ℕ → DeskCommand → Reply → KeptValue → SeatValue → Type 0
ActsFirst old was key command reply new now =
    CarriesOutFirst old was key command reply new now ⊎ LacksMemory old was reply new now

-- ---- a command under a key

-- the spends that wait under keys but not in the queue expired
pub record SettlesKeys (old new : KeptValue) : Type 0 where
  pub keys : Settles old.desk.queue.waiting old.keys.keys new.keys.keys
  pub rest : new ≡ record old { keys = record old.keys { keys = new.keys.keys; room = new.keys.room } }

-- by where the command of this key ended, if the key is not free
abbrev pub ActsBy : Option Outcome → KeptValue → SeatValue → List ℕ → DeskCommand → Reply → KeptValue → SeatValue → Type 0
ActsBy (Some outcome) old was key command reply new now =
    (reply ≡ repeat_of outcome command) × FreesIf (is_repeat outcome command) outcome old was new now
ActsBy None old was key command reply new now = ActsFirst old was key command reply new now

-- by whether keys are taken
abbrev pub ActsIf : Bool → KeptValue → SeatValue → List ℕ → DeskCommand → Reply → KeptValue → SeatValue → Type 0
ActsIf false old was key command reply new now = (reply ≡ KeyRefused) × (new ≡ old) × (now ≡ was)
ActsIf true old was key command reply new now =
    (ready : KeptValue) × SettlesKeys old ready
    × ActsBy (outcome_of ready.keys.keys key) ready was key command reply new now

-- from old and was, the command under this key may have this reply and lead to new and now
abbrev pub ActsKeyed : KeptValue → SeatValue → List ℕ → DeskCommand → Reply → KeptValue → SeatValue → Type 0
ActsKeyed old was key command reply new now =
    ActsIf (nat_lt 0 old.keys.keys.cap) old was key command reply new now
