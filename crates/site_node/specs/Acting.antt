-- The effect of a command at the desk: from the desk and a seat to a reply, and to the desk and the seat afterwards.
-- The desk is `old` and becomes `new`; the seat is `was` and becomes `now`.
use Rattle.std.specs.Prelude.{◌≡◌, ◌≢◌, ℕ, Bool, true, false, nat_lt, [], ◌∷◌, Option, Some, None, if◌then◌else◌}
use Rattle.rights_types.specs.Chains.{end}
use Rattle.rights_types.specs.declared.moves.Move.TheVariants.{Issue as Issues, Spend as Spends, Give as Gives}
use Rattle.request_queue.specs.Calls.{TellsOutcome}
use Rattle.request_queue.specs.declared.request.Status.{Status}
use Rattle.request_queue.specs.declared.request.Status.TheVariants.{Waiting}
use Rattle.site_core.specs.declared.desk.requests.Spending.{Spending as SpendResult}
use Rattle.site_core.specs.declared.desk.requests.Spending.TheVariants.{Spent}
use Rattle.site_core.specs.declared.fault.DeskError.{DeskError}
use Rattle.site_core.specs.declared.fault.DeskError.TheVariants.{Closed, BadAmount}
use Rattle.site_core.specs.Desks.{DeskValue}
use Rattle.site_core.specs.Faults.{issue_fault, give_fault, spend_fault, take_fault, close_fault, can_spend}
use Rattle.site_core.specs.Faults.{has_closed, is_no_amount}
use Rattle.site_core.specs.Ledgers.{EntryKeeps, ClosingKeeps}
use Rattle.site_core.specs.Calls.{DeskWrites, DeskSpends, SpendKeeps, DeskCancels, DeskCloses}
use Rattle.apply_lanes.specs.Kepts.{KeptValue, SeatValue, raised, told_issued, told_spent, told_taken}
use Rattle.apply_lanes.specs.Kepts.{spent_by}
use Rattle.apply_lanes.specs.Recording.{with_written, with_spent}
use Rattle.site_words.specs.declared.commands.DeskCommand.{DeskCommand}
use Rattle.site_words.specs.declared.commands.DeskCommand.TheVariants.{Issue, Give, Spend, Take}
use Rattle.site_words.specs.declared.commands.DeskCommand.TheVariants.{Outcome, Cancel, Close}
use Rattle.site_node.specs.Refusals.{Refuses, Always}
use Rattle.site_node.specs.declared.reply.Reply.{Reply}
use Rattle.site_node.specs.declared.reply.Reply.TheVariants.{Number, Spending, Outcome as Tells, Refused, BadDeadline}

-- ---- what a command leaves that is not refused

-- an entry issued this many rights, is recorded, and its number is returned; the counter and the seat count them
pub record HasIssued (old : KeptValue) (was : SeatValue) (amount number : ℕ) (new : KeptValue)
    (now : SeatValue) : Type 0 where
  pub entry : DeskWrites old.desk (Issues amount ∷ []) new.desk
  pub keeps : EntryKeeps old.desk.ledger (Issues amount ∷ []) new.desk.ledger
  pub at_end : number ≡ end new.desk.ledger.log.entries
  pub counter : new ≡ record old {
    desk = new.desk;
    issued = raised old.issued amount;
    records = with_written old.records new.desk;
  }
  pub counted : now ≡ told_issued was amount

-- an entry gave this many rights to the peer, is recorded, and its number is returned
pub record HasGiven (old : KeptValue) (was : SeatValue) (peer amount number : ℕ) (new : KeptValue)
    (now : SeatValue) : Type 0 where
  pub entry : DeskWrites old.desk (Gives peer amount ∷ []) new.desk
  pub keeps : EntryKeeps old.desk.ledger (Gives peer amount ∷ []) new.desk.ledger
  pub at_end : number ≡ end new.desk.ledger.log.entries
  pub rest : new ≡ record old { desk = new.desk; records = with_written old.records new.desk }
  pub same_seat : now ≡ was

-- the spend was served and recorded, or waits, as the reply says; the counter and the seat count what was spent
pub record HasSpent (old : KeptValue) (was : SeatValue) (amount deadline : ℕ) (spending : SpendResult) (new : KeptValue)
    (now : SeatValue) : Type 0 where
  pub desk : DeskSpends old.desk amount deadline spending new.desk
  pub keeps : SpendKeeps old.desk amount spending new.desk
  pub counter : new ≡ record old {
    desk = new.desk;
    spent = raised old.spent (spent_by amount spending);
    records = with_spent old.records spending new.desk;
  }
  pub counted : now ≡ told_spent was amount spending

-- an entry spent this many rights now, and is recorded; the counter and the seat count them
pub record HasTaken (old : KeptValue) (was : SeatValue) (amount number : ℕ) (new : KeptValue)
    (now : SeatValue) : Type 0 where
  pub entry : DeskWrites old.desk (Spends amount ∷ []) new.desk
  pub keeps : EntryKeeps old.desk.ledger (Spends amount ∷ []) new.desk.ledger
  pub at_end : number ≡ end new.desk.ledger.log.entries
  pub counter : new ≡ record old {
    desk = new.desk;
    spent = raised old.spent amount;
    records = with_written old.records new.desk;
  }
  pub counted : now ≡ told_taken was amount

-- the spend no longer waits, and its outcome is returned, which frees its slot
pub record HasCancelled (old : KeptValue) (was : SeatValue) (ticket : ℕ) (status : Status) (new : KeptValue)
    (now : SeatValue) : Type 0 where
  pub desk : DeskCancels old.desk ticket status new.desk
  pub decided : status ≢ Waiting
  pub rest : new ≡ record old { desk = record old.desk { queue = new.desk.queue } }
  pub same_seat : now ≡ was

-- the state of a spend is returned; a final outcome frees its slot
pub record HasReported (old : KeptValue) (was : SeatValue) (ticket : ℕ) (status : Status) (new : KeptValue)
    (now : SeatValue) : Type 0 where
  pub outcome : TellsOutcome old.desk.queue ticket status new.desk.queue
  pub rest : new ≡ record old { desk = record old.desk { queue = new.desk.queue } }
  pub same_seat : now ≡ was

-- the closing entry was written and recorded, and its number is returned
pub record HasClosed (old : KeptValue) (was : SeatValue) (heir : Option ℕ) (number : ℕ) (new : KeptValue)
    (now : SeatValue) : Type 0 where
  pub entry : DeskCloses old.desk heir new.desk
  pub keeps : ClosingKeeps old.desk.ledger heir new.desk.ledger
  pub at_end : number ≡ end new.desk.ledger.log.entries
  pub rest : new ≡ record old { desk = new.desk; records = with_written old.records new.desk }
  pub same_seat : now ≡ was

-- ---- a command

-- a refusal, for this cause or for lack of memory, and nothing changed
pub record IsRefused (old : KeptValue) (was : SeatValue) (fault : Option DeskError) (Wants : Type 0) (cause : DeskError)
    (new : KeptValue) (now : SeatValue) : Type 0 where
  pub refuses : Refuses fault Wants cause
  pub same_desk : new ≡ old
  pub same_seat : now ≡ was

-- each command has only its own replies, and each of them determines its effect
abbrev pub ActsIssue : KeptValue → SeatValue → ℕ → Reply → KeptValue → SeatValue → Type 0
ActsIssue old was amount (Number n) new now = (issue_fault old.desk amount ≡ None) × HasIssued old was amount n new now
ActsIssue old was amount (Refused cause) new now = IsRefused old was (issue_fault old.desk amount) Always cause new now
ActsIssue old was amount reply new now = ⊥

abbrev pub ActsGive : KeptValue → SeatValue → ℕ → ℕ → Reply → KeptValue → SeatValue → Type 0
ActsGive old was peer amount (Number n) new now = (give_fault old.desk peer amount ≡ None)
    × HasGiven old was peer amount n new now
ActsGive old was peer amount (Refused cause) new now
    = IsRefused old was (give_fault old.desk peer amount) Always cause new now
ActsGive old was peer amount reply new now = ⊥

-- the deadline is later than the latest one, if there is one
abbrev pub is_too_far : ℕ → Option ℕ → Bool
is_too_far deadline None = false
is_too_far deadline (Some latest) = nat_lt latest deadline

-- the causes for which a spend is refused before its deadline is looked at
abbrev pub first_fault : DeskValue → ℕ → Option DeskError
first_fault d amount =
    if has_closed d then Some Closed else (if is_no_amount amount then Some BadAmount else None)

-- .. and all causes but its deadline, by whether that is too far ahead: the others come after it
abbrev pub fault_by : Bool → DeskValue → ℕ → Option DeskError
fault_by true = first_fault
fault_by false = spend_fault

-- a refusal for the deadline alone, and nothing changed
pub record IsTooFar (old : KeptValue) (was : SeatValue) (amount deadline : ℕ) (latest : Option ℕ) (new : KeptValue)
    (now : SeatValue) : Type 0 where
  pub far : is_too_far deadline latest ≡ true
  pub no_other : first_fault old.desk amount ≡ None
  pub same_desk : new ≡ old
  pub same_seat : now ≡ was

-- a spend may run out of memory only if it is served at once
abbrev pub ActsSpend : KeptValue → SeatValue → ℕ → ℕ → Option ℕ → Reply → KeptValue → SeatValue → Type 0
ActsSpend old was amount deadline latest (Spending spending) new now =
    (is_too_far deadline latest ≡ false) × (spend_fault old.desk amount ≡ None)
    × HasSpent old was amount deadline spending new now
ActsSpend old was amount deadline latest (Refused cause) new now =
    IsRefused old was (fault_by (is_too_far deadline latest) old.desk amount)
    ((is_too_far deadline latest ≡ false) × (can_spend old.desk amount ≡ true)) cause new now
ActsSpend old was amount deadline latest BadDeadline new now = IsTooFar old was amount deadline latest new now
ActsSpend old was amount deadline latest reply new now = ⊥

-- what is taken is spent at once, and never waits
abbrev pub ActsTake : KeptValue → SeatValue → ℕ → Reply → KeptValue → SeatValue → Type 0
ActsTake old was amount (Spending (Spent n)) new now = (take_fault old.desk amount ≡ None)
    × HasTaken old was amount n new now
ActsTake old was amount (Refused cause) new now
    = IsRefused old was (take_fault old.desk amount) Always cause new now
ActsTake old was amount reply new now = ⊥

-- cancelling is never refused
abbrev pub ActsCancel : KeptValue → SeatValue → ℕ → Reply → KeptValue → SeatValue → Type 0
ActsCancel old was ticket (Tells status) new now = HasCancelled old was ticket status new now
ActsCancel old was ticket reply new now = ⊥

-- an outcome is never refused
abbrev pub ActsOutcome : KeptValue → SeatValue → ℕ → Reply → KeptValue → SeatValue → Type 0
ActsOutcome old was ticket (Tells status) new now = HasReported old was ticket status new now
ActsOutcome old was ticket reply new now = ⊥

abbrev pub ActsClose : KeptValue → SeatValue → Option ℕ → Reply → KeptValue → SeatValue → Type 0
ActsClose old was heir (Number n) new now = (close_fault old.desk heir ≡ None) × HasClosed old was heir n new now
ActsClose old was heir (Refused cause) new now = IsRefused old was (close_fault old.desk heir) Always cause new now
ActsClose old was heir reply new now = ⊥

-- from old and was, the command may have this reply and lead to new and now
abbrev pub Acts : KeptValue → SeatValue → DeskCommand → Reply → KeptValue → SeatValue → Type 0
Acts old was (Issue amount) reply new now = ActsIssue old was amount reply new now
Acts old was (Give peer amount) reply new now = ActsGive old was peer amount reply new now
Acts old was (Spend amount deadline latest) reply new now = ActsSpend old was amount deadline latest reply new now
Acts old was (Take amount) reply new now = ActsTake old was amount reply new now
Acts old was (Cancel ticket) reply new now = ActsCancel old was ticket reply new now
Acts old was (Outcome ticket) reply new now = ActsOutcome old was ticket reply new now
Acts old was (Close heir) reply new now = ActsClose old was heir reply new now
