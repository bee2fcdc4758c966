-- The result and effect of each call of a desk.
use Rattle.std.specs.Prelude.{◌≡◌, ℕ, ◌<◌, ◌≤◌, Bool, true, false, not, ◌||◌, List, [], ◌∷◌, ◌++◌, length, map}
use Rattle.std.specs.Prelude.{Option, Some, None, Ok, if◌then◌else◌}
use Rattle.std.specs.List.{filter, slice_get}
use Rattle.std.specs.Option.{option_map}
use Rattle.rights_types.specs.Entries.{EntryValue}
use Rattle.rights_types.specs.Chains.{end}
use Rattle.rights_types.specs.Places.{at_site}
use Rattle.rights_types.specs.Messages.{AskValue, DenyValue, MessageValue}
use Rattle.rights_types.specs.Messages.MessageValue.{AnEntry, ABeat, ADenial}
use Rattle.rights_types.specs.declared.moves.Move.{Move}
use Rattle.rights_types.specs.declared.moves.Move.TheVariants.{Spend, Grant}
use Rattle.origin_log.specs.Logs.{LogValue, published, all_published}
use Rattle.rights_book.specs.Books.{held_by, account, sites}
use Rattle.request_queue.specs.declared.request.Request.{Request}
use Rattle.request_queue.specs.declared.request.Outcome.TheVariants.{Expired}
use Rattle.request_queue.specs.declared.request.Status.{Status}
use Rattle.request_queue.specs.Queues.{QueueValue, is_late, total_of, front_of}
use Rattle.request_queue.specs.Calls.{Puts, Serves, Cancels, TellsOutcome}
use Rattle.transfer_manager.specs.declared.answer.AskAnswer.{AskAnswer}
use Rattle.transfer_manager.specs.declared.answer.AskAnswer.TheVariants.{Grant as Granted, Deny, RepeatedDeny, Repeated}
use Rattle.transfer_manager.specs.declared.answer.AskAnswer.TheVariants.{OldAsk}
use Rattle.transfer_manager.specs.Plans.{Plans, of_book, of_logs, beside}
use Rattle.transfer_manager.specs.AskAnswers.{answer_to, noted}
use Rattle.site_core.specs.Ledgers.{HasApplied, WritesEntry, EntryKeeps, WritesClosing, AppliesEntry}
use Rattle.site_core.specs.Desks.{DeskValue, after_grants}
use Rattle.site_core.specs.Faults.{has_closed, is_full, can_spend, spare}
use Rattle.site_core.specs.declared.desk.requests.Spending.{Spending}
use Rattle.site_core.specs.declared.desk.requests.Spending.TheVariants.{Spent, Queued}

-- ---- entries and spends

-- the desk wrote an entry of these moves, and nothing else changed
pub record DeskWrites (old : DeskValue) (ms : List Move) (new : DeskValue) : Type 0 where
  pub entry : WritesEntry old.ledger ms new.ledger
  pub rest : new ≡ record old { ledger = new.ledger }

-- a spend of this many rights is served at once, or waits
abbrev pub DeskSpends : DeskValue → ℕ → ℕ → Spending → DeskValue → Type 0
DeskSpends old n deadline (Spent number) new =
    (can_spend old n ≡ true) × DeskWrites old (Spend n ∷ []) new × (number ≡ end new.ledger.log.entries)
DeskSpends old n deadline (Queued ticket) new =
    (can_spend old n ≡ false) × Puts old.queue n deadline (Ok ticket) new.queue
    × (new ≡ record old { queue = new.queue })

-- what the entry preserves, if the spend is served at once
abbrev pub SpendKeeps : DeskValue → ℕ → Spending → DeskValue → Type 0
SpendKeeps old n (Spent number) new = EntryKeeps old.ledger (Spend n ∷ []) new.ledger
SpendKeeps old n (Queued ticket) new = Unit {0}

-- nothing waits, or less is held than the front request is for
abbrev pub CannotServe : DeskValue → Option (ℕ × ℕ × ℕ) → Type 0
CannotServe d None = Unit {0}
CannotServe d (Some front) = held_by d.ledger.book < front.1

-- the front request, for no more than was held, was served by an entry that spends its amount
pub record ServesFront (old : DeskValue) (ticket number : ℕ) (new : DeskValue) : Type 0 where
  pub amount : ℕ
  pub deadline : ℕ
  pub front : front_of old.queue.waiting ≡ Some (ticket, amount, deadline)
  pub covered : amount ≤ held_by old.ledger.book
  pub entry : WritesEntry old.ledger (Spend amount ∷ []) new.ledger
  pub at_end : number ≡ end new.ledger.log.entries
  pub queue : Serves old.queue number new.queue
  pub rest : new ≡ record old { ledger = new.ledger; queue = new.queue }

abbrev pub DeskServes : DeskValue → Option (ℕ × ℕ) → DeskValue → Type 0
DeskServes old None new = CannotServe old (front_of old.queue.waiting) × (new ≡ old)
DeskServes old (Some (ticket, number)) new = ServesFront old ticket number new

-- what that entry preserves
abbrev pub ServeKeeps : DeskValue → Option (ℕ × ℕ) → DeskValue → Type 0
ServeKeeps old None new = Unit {0}
ServeKeeps old (Some (ticket, number)) new =
    (amount deadline : ℕ) → front_of old.queue.waiting ≡ Some (ticket, amount, deadline)
    → EntryKeeps old.ledger (Spend amount ∷ []) new.ledger

-- the requests that are late at this time, and those that continue to wait
abbrev pub late : ℕ → List Request → List Request
late time requests = filter (is_late time) requests

abbrev pub in_time : ℕ → List Request → List Request
in_time time requests = filter (λ r. not (is_late time r)) requests

-- all late requests have expired, in order, and count is how many there were
pub record ExpiresLate (old : QueueValue) (time count : ℕ) (new : QueueValue) : Type 0 where
  pub waiting : new.waiting ≡ in_time time old.waiting
  pub outcomes : new.outcomes ≡ old.outcomes ++ map (λ r. (r.ticket, Expired)) (late time old.waiting)
  pub same_next : new.next ≡ old.next
  pub counted : count ≡ length (late time old.waiting)

pub record DeskExpires (old : DeskValue) (time count : ℕ) (new : DeskValue) : Type 0 where
  pub queue : ExpiresLate old.queue time count new.queue
  pub rest : new ≡ record old { queue = new.queue; time = time }

-- the spend of this ticket no longer waits, and then its outcome was reported
pub record DeskCancels (old : DeskValue) (ticket : ℕ) (status : Status) (new : DeskValue) : Type 0 where
  pub waited : Bool
  pub between : QueueValue
  pub cancels : Cancels old.queue ticket waited between
  pub tells : TellsOutcome between ticket status new.queue
  pub rest : new ≡ record old { queue = new.queue }

-- ---- lines

-- the index of the next entry for the peer
abbrev pub next_place : LogValue → ℕ → Option ℕ
next_place log p = option_map (λ e. at_site log.cursors p 0) (slice_get log.entries (at_site log.cursors p 0))

-- the next entry for the peer, as a message
abbrev pub next_push : LogValue → ℕ → Option MessageValue
next_push log p = option_map (λ e. AnEntry e) (slice_get log.entries (at_site log.cursors p 0))

-- .. which counts as published if its line is returned, and not otherwise
abbrev pub published_if : LogValue → ℕ → Option MessageValue → LogValue
published_if log p None = log
published_if log p (Some m) = published log p

abbrev pub after_publish : DeskValue → ℕ → DeskValue
after_publish d p = record d {
  ledger =
      record d.ledger { log = published_if d.ledger.log p (next_push d.ledger.log p) };
}

-- all entries count as published to the peer, sent or not
abbrev pub after_skip : DeskValue → ℕ → DeskValue
after_skip d p = record d { ledger = record d.ledger { log = all_published d.ledger.log p } }

abbrev pub beat_of : LogValue → MessageValue
beat_of log = ABeat (record { origin = log.site; number = end log.entries })

-- ---- asks

-- the asks were planned beside these silent sites, according to what the book knows, which is what the logs say
pub record DeskPlansBeside (silent : ℕ → Bool) (old : DeskValue) (count : ℕ) (new : DeskValue) : Type 0 where
  pub by_book : Plans old.manager (beside silent (of_book old.ledger.book)) (total_of old.queue.waiting) count
      new.manager
  pub by_logs : (applied : ℕ → List EntryValue) → HasApplied applied old.ledger
      → Plans old.manager
      (beside silent (of_logs (sites old.ledger.book) old.ledger.log.site old.ledger.log.entries applied))
      (total_of old.queue.waiting) count new.manager
  pub rest : new ≡ record old { manager = new.manager }

-- .. with no site silent
abbrev pub DeskPlans : DeskValue → ℕ → DeskValue → Type 0
DeskPlans old count new = DeskPlansBeside (λ j. false) old count new

-- the rights that an ask of site j can be granted
abbrev pub available : DeskValue → ℕ → ℕ
available d j =
    if has_closed d || (account d.ledger.book j).closed || is_full d 1 then 0
    else spare d

abbrev pub answer_of : DeskValue → AskValue → AskAnswer
answer_of d ask = answer_to d.manager ask (available d ask.asker)

-- an ask that gets neither a grant nor a line: it was granted before, or a later one was answered
abbrev pub is_ignored : AskAnswer → Bool
is_ignored Repeated = true
is_ignored OldAsk = true
is_ignored answer = false

abbrev pub denial : AskValue → DenyValue
denial ask = record { denier = ask.asked; asker = ask.asker; ask = ask.ask }

-- the message of a denial, new or repeated
abbrev pub denial_of : AskValue → AskAnswer → Option MessageValue
denial_of ask Deny = Some (ADenial (denial ask))
denial_of ask RepeatedDeny = Some (ADenial (denial ask))
denial_of ask answer = None

-- the effect of an answer to an ask: a grant is an entry of its own, whose number is returned, and a new answer is
-- recorded
abbrev pub DeskAnswers : DeskValue → AskValue → AskAnswer → Option ℕ → DeskValue → Type 0
DeskAnswers old ask (Granted n) number new =
    WritesEntry old.ledger (Grant ask.asker n ask.ask ∷ []) new.ledger × (number ≡ Some (end new.ledger.log.entries))
    × (new ≡ record old { ledger = new.ledger; manager = noted old.manager ask (Granted n) })
DeskAnswers old ask answer number new = (number ≡ None) × (new ≡ record old { manager = noted old.manager ask answer })

-- what the entry of a grant preserves
abbrev pub AnswerKeeps : DeskValue → AskValue → AskAnswer → DeskValue → Type 0
AnswerKeeps old ask (Granted n) new = EntryKeeps old.ledger (Grant ask.asker n ask.ask ∷ []) new.ledger
AnswerKeeps old ask answer new = Unit {0}

-- ---- applying and closing

-- the desk applied the entry e of site o, reclaimed what it was owed, and ended the asks that e grants
pub record DeskApplies (old : DeskValue) (o : ℕ) (e : EntryValue) (new : DeskValue) : Type 0 where
  pub entry : AppliesEntry old.ledger o e new.ledger
  pub rest : new ≡ record old { ledger = new.ledger; manager = after_grants old.ledger.log.site o e.moves old.manager }

-- the desk wrote its closing entry
pub record DeskCloses (old : DeskValue) (heir : Option ℕ) (new : DeskValue) : Type 0 where
  pub entry : WritesClosing old.ledger heir new.ledger
  pub rest : new ≡ record old { ledger = new.ledger }
