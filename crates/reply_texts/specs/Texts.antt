-- The text of each reply of a desk, without the line feed at its end.
use Rattle.std.specs.Prelude.{ℕ, List, ◌++◌, decimal, codes}
use Rattle.request_queue.specs.declared.request.Status.{Status}
use Rattle.request_queue.specs.declared.request.Status.TheVariants.{Waiting, Spent as SpentAt, Expired, Unknown}
use Rattle.site_core.specs.declared.desk.requests.Spending.{Spending}
use Rattle.site_core.specs.declared.desk.requests.Spending.TheVariants.{Spent, Queued}
use Rattle.site_core.specs.declared.fault.DeskError.{DeskError}
use Rattle.site_core.specs.declared.fault.DeskError.TheVariants.{Closed, BadCount, BadMove, BadAmount, NoSuchSite}
use Rattle.site_core.specs.declared.fault.DeskError.TheVariants.{SameSite, PeerClosed, LogFull, Short, OutOfMemory}
use Rattle.site_core.specs.declared.fault.DeskError.TheVariants.{QueueFull, QueueBusy, HeldTooMuch, TimeWentBack}
use Rattle.refusals.specs.Refusals.{refusal_name, refusal_text}
use Rattle.refusals.specs.declared.refusal.Refusal.{Refusal}
use Rattle.refusals.specs.declared.refusal.Refusal.TheVariants as refused

-- the number of a new entry
abbrev pub number_text : ℕ → List ℕ
number_text number = codes "number " ++ decimal number

-- whether a spend was served at once or waits
abbrev pub spending_text : Spending → List ℕ
spending_text (Spent number) = codes "spent " ++ decimal number
spending_text (Queued ticket) = codes "queued " ++ decimal ticket

-- the state of a spend that waited
abbrev pub status_text : Status → List ℕ
status_text Waiting = codes "waiting"
status_text (SpentAt number) = codes "spent " ++ decimal number
status_text Expired = codes "expired"
status_text Unknown = codes "unknown"

-- what a client is told of a refusal of the desk
abbrev pub refusal_of : DeskError → Refusal
refusal_of Closed = refused.Closed
refusal_of BadCount = refused.BadCount
refusal_of BadMove = refused.BadMove
refusal_of BadAmount = refused.BadAmount
refusal_of NoSuchSite = refused.NoSuchSite
refusal_of SameSite = refused.SameSite
refusal_of PeerClosed = refused.PeerClosed
refusal_of LogFull = refused.LogFull
refusal_of Short = refused.Short
refusal_of OutOfMemory = refused.OutOfMemory
refusal_of QueueFull = refused.QueueFull
refusal_of QueueBusy = refused.QueueBusy
refusal_of HeldTooMuch = refused.HeldTooMuch
refusal_of TimeWentBack = refused.TimeWentBack

abbrev pub desk_error_name : DeskError → List ℕ
desk_error_name error = refusal_name (refusal_of error)

-- a desk refused
abbrev pub error_text : DeskError → List ℕ
error_text error = refusal_text (refusal_of error)

-- the line spells no command
abbrev pub bad_command : List ℕ
bad_command = refusal_text refused.BadCommand

-- the deadline of a spend is too far ahead of the site's clock
abbrev pub bad_deadline : List ℕ
bad_deadline = refusal_text refused.BadDeadline
