-- The refusals that a client can get, and what the answer to a line is.
use Rattle.std.specs.Prelude.{ℕ, List, [], ◌∷◌, ◌++◌, ◌≡◌, codes, map}
use Rattle.refusals.specs.declared.refusal.Refusal.{Refusal}
use Rattle.refusals.specs.declared.refusal.Refusal.TheVariants.{Closed, BadCount, BadMove, BadAmount, NoSuchSite}
use Rattle.refusals.specs.declared.refusal.Refusal.TheVariants.{SameSite, PeerClosed, LogFull, Short, OutOfMemory}
use Rattle.refusals.specs.declared.refusal.Refusal.TheVariants.{QueueFull, QueueBusy, HeldTooMuch, TimeWentBack}
use Rattle.refusals.specs.declared.refusal.Refusal.TheVariants.{BadCommand, BadDeadline, OwnClock, BadKey, KeyRefused, KeyReused}
use Rattle.refusals.specs.declared.answered.Answered.{Answered}
use Rattle.refusals.specs.declared.answered.Answered.TheVariants.{Done, Refused}

abbrev pub refusal_name : Refusal → List ℕ
refusal_name Closed = codes "Closed"
refusal_name BadCount = codes "BadCount"
refusal_name BadMove = codes "BadMove"
refusal_name BadAmount = codes "BadAmount"
refusal_name NoSuchSite = codes "NoSuchSite"
refusal_name SameSite = codes "SameSite"
refusal_name PeerClosed = codes "PeerClosed"
refusal_name LogFull = codes "LogFull"
refusal_name Short = codes "Short"
refusal_name OutOfMemory = codes "OutOfMemory"
refusal_name QueueFull = codes "QueueFull"
refusal_name QueueBusy = codes "QueueBusy"
refusal_name HeldTooMuch = codes "HeldTooMuch"
refusal_name TimeWentBack = codes "TimeWentBack"
refusal_name BadCommand = codes "BadCommand"
refusal_name BadDeadline = codes "BadDeadline"
refusal_name OwnClock = codes "OwnClock"
refusal_name BadKey = codes "BadKey"
refusal_name KeyRefused = codes "KeyRefused"
refusal_name KeyReused = codes "KeyReused"

-- each refusal once, in the order in which they are counted
abbrev pub all_refusals : List Refusal
all_refusals =
    Closed ∷ BadCount ∷ BadMove ∷ BadAmount ∷ NoSuchSite ∷ SameSite ∷ PeerClosed ∷ LogFull ∷ Short ∷ OutOfMemory
    ∷ QueueFull ∷ QueueBusy ∷ HeldTooMuch ∷ TimeWentBack ∷ BadCommand ∷ BadDeadline ∷ OwnClock ∷ BadKey ∷ KeyRefused ∷ KeyReused ∷ []

-- .. and their names
abbrev pub refusal_names : List (List ℕ)
refusal_names = map refusal_name all_refusals

-- the reply that reports a refusal, without the line feed at its end
abbrev pub refusal_text : Refusal → List ℕ
refusal_text why = codes "error " ++ refusal_name why

-- the answer to a line: the text of its reply, without the line feed at its end, and how the line was answered
pub record LineAnswer : Type 0 where
  pub text : List ℕ
  pub how : Answered

-- the answer reports this refusal
pub record IsRefusedFor (why : Refusal) (answer : LineAnswer) : Type 0 where
  pub text : answer.text ≡ refusal_text why
  pub how : answer.how ≡ Refused why
