-- The text of each reply, without the line feed at its end, and how it answers a line.
use Rattle.std.specs.Prelude.{ℕ, List, [], ◌∷◌, ◌++◌, decimal, codes, Result, Ok, Err}
use Rattle.std.specs.List.{flat_map}
use Rattle.request_queue.specs.declared.request.Request.{Request}
use Rattle.site_core.specs.declared.fault.DeskError.{DeskError}
use Rattle.refusals.specs.Refusals.{refusal_text}
use Rattle.refusals.specs.declared.answered.Answered.{Answered}
use Rattle.refusals.specs.declared.answered.Answered.TheVariants.{Done, Refused as IsRefused}
use Rattle.refusals.specs.declared.refusal.Refusal.TheVariants as refusal
use Rattle.reply_texts.specs.Texts.{number_text, spending_text, status_text, error_text, bad_deadline, refusal_of}
use Rattle.site_node.specs.declared.tick.Ticked.{Ticked}
use Rattle.site_node.specs.declared.reply.Reply.{Reply}
use Rattle.site_node.specs.declared.reply.Reply.TheVariants.{Number, Spending, Outcome, Refused, BadDeadline}
use Rattle.site_node.specs.declared.reply.Reply.TheVariants.{KeyRefused, KeyReused}

abbrev pub reply_text : Reply → List ℕ
reply_text (Number number) = number_text number
reply_text (Spending spending) = spending_text spending
reply_text (Outcome status) = status_text status
reply_text (Refused cause) = error_text cause
reply_text BadDeadline = bad_deadline
reply_text KeyRefused = refusal_text refusal.KeyRefused
reply_text KeyReused = refusal_text refusal.KeyReused

-- how a command with this reply is answered
abbrev pub reply_answered : Reply → Answered
reply_answered (Refused cause) = IsRefused (refusal_of cause)
reply_answered BadDeadline = IsRefused refusal.BadDeadline
reply_answered KeyRefused = IsRefused refusal.KeyRefused
reply_answered KeyReused = IsRefused refusal.KeyReused
reply_answered reply = Done

-- a request that waits, as an object of JSON
abbrev pub request_text : Request → List ℕ
request_text r =
    codes "{\"amount\":" ++ decimal r.amount ++ codes ",\"deadline\":" ++ decimal r.deadline
    ++ codes ",\"ticket\":" ++ decimal r.ticket ++ codes "}"

-- .. and such requests, each after a comma
abbrev pub more_requests : List Request → List ℕ
more_requests requests = flat_map (λ (r : Request). codes "," ++ request_text r) requests

-- the requests, separated by commas
abbrev pub requests_text : List Request → List ℕ
requests_text [] = []
requests_text (r ∷ others) = request_text r ++ more_requests others

-- the requests that wait, in order, and how many outcomes nobody has read
abbrev pub queue_text : List Request → ℕ → List ℕ
queue_text requests unread =
    codes "{\"requests\":[" ++ requests_text requests ++ codes "],\"unread\":" ++ decimal unread ++ codes "}"

-- what a tick did at the desk, and how many lines found space in outboxes
abbrev pub ticked_text : Ticked → ℕ → List ℕ
ticked_text ticked sent =
    codes "tick expired " ++ decimal ticked.expired
    ++ codes " served " ++ decimal ticked.served
    ++ codes " asks " ++ decimal ticked.asks
    ++ codes " sent " ++ decimal sent

-- .. or why a part of it was refused
abbrev pub tick_text : Result (Ticked × ℕ) DeskError → List ℕ
tick_text (Ok now) = ticked_text now.0 now.1
tick_text (Err cause) = error_text cause

-- how such a tick is answered
abbrev pub tick_answered : Result (Ticked × ℕ) DeskError → Answered
tick_answered (Ok now) = Done
tick_answered (Err cause) = IsRefused (refusal_of cause)
