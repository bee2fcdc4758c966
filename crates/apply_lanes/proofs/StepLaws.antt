-- Each call under the lock is a step of the protocol.
use Rattle.std.proofs.Common.{◌≡◌, ◌≢◌, ℕ, ◌≤◌, Bool, true, false, true≢false, List, [], ◌∷◌, ◌++◌, Option, Some, None}
use Rattle.std.proofs.Common.{Result, Ok, Err, IfOk, OnOk, OnErr, refl, sym, ap, ◌∙◌, subst}
use Rattle.rights_types.specs.Entries.{EntryValue, IsEntry}
use Rattle.rights_types.specs.Chains.{is_closed}
use Rattle.rights_types.specs.Messages.{AskValue, MessageValue}
use Rattle.rights_types.specs.declared.moves.Move.{Move}
use Rattle.rights_types.specs.declared.moves.Move.TheVariants.{Spend, Grant}
use Rattle.rights_protocol.specs.Schedules.{SiteLists, LocalChange, LocalStep}
use Rattle.rights_protocol.specs.Schedules.LocalChange.{Write, Apply, Retire, Other}
use Rattle.rights_protocol.specs.Retiring.{entry_at_end}
use Rattle.rights_protocol.specs.Invariant.{SiteInvariant}
use Rattle.rights_protocol.specs.Crashes.{lists_of}
use Rattle.origin_log.specs.Logs.{LogValue}
use Rattle.rights_book.specs.Books.{peer, sites}
use Rattle.transfer_manager.specs.declared.answer.AskAnswer.{AskAnswer}
use Rattle.transfer_manager.specs.declared.answer.AskAnswer.TheVariants.{Grant as Granted, Deny, RepeatedDeny, Repeated}
use Rattle.transfer_manager.specs.declared.answer.AskAnswer.TheVariants.{OldAsk}
use Rattle.site_core.specs.Ledgers.{LedgerValue, HasApplied, WritesEntry, EntryKeeps, WritesClosing, ClosingKeeps}
use Rattle.site_core.specs.Ledgers.{AppliesEntry, ApplyKeeps}
use Rattle.site_core.specs.Desks.{DeskValue}
use Rattle.site_core.specs.Calls.{DeskAnswers, AnswerKeeps, DeskSpends, SpendKeeps, DeskExpires, next_push}
use Rattle.site_core.specs.Calls.{after_publish, after_skip, published_if}
use Rattle.site_core.specs.declared.desk.requests.Spending.{Spending}
use Rattle.site_core.specs.declared.desk.requests.Spending.TheVariants.{Spent, Queued}
use Rattle.site_core.specs.declared.fault.DeskError.{DeskError}
use Rattle.apply_lanes.specs.Names.{DeskId}
use Rattle.apply_lanes.specs.Kepts.{KeptValue, IsKept}
use Rattle.apply_lanes.specs.Steps.{site_lists, StepsBy, spend_change, serve_change, answer_change, apply_change}
use Rattle.apply_lanes.proofs.KeptLaws.{with_one, adds_one, next_applied, has_one}

-- a step of the desk's own site
step_of : (id : DeskId) (k : KeptValue) (old new : SiteLists) (change : LocalChange) → IsKept id k
    → LocalStep (sites k.desk.ledger.book) k.desk.ledger.log.site old change new
    → LocalStep id.sites id.site old change new
step_of id k old new change is step
    = subst (λ (x : ℕ × ℕ). LocalStep x.0 x.1 old change new) (λ i. (is.same_sites i, is.site i)) step

-- for a value seen from outside
pub seen : (id : DeskId) (k l : KeptValue) (change : LocalChange) (new : DeskValue) → k ≡ l
    → StepsBy id k.desk change new → StepsBy id l.desk change new
seen id k l change new same steps = subst (λ (x : KeptValue). StepsBy id x.desk change new) same steps

-- an entry was written
pub steps_write : (id : DeskId) (k : KeptValue) (new : DeskValue) (ms : List Move) → IsKept id k
    → WritesEntry k.desk.ledger ms new.ledger
    → EntryKeeps k.desk.ledger ms new.ledger → StepsBy id k.desk (Write ms) new
steps_write id k new ms is w keeps applied h = (
  applied,
  keeps.applied.all applied h,
  step_of id k (site_lists k.desk applied) (site_lists new applied) (Write ms) is
      (record { may = keeps.may applied h; log = ap (λ (l : LogValue). l.entries) w.log; applied = λ o. refl }),
)

-- the closing entry was written
pub steps_close : (id : DeskId) (k : KeptValue) (new : DeskValue) (heir : Option ℕ) → IsKept id k
    → WritesClosing k.desk.ledger heir new.ledger
    → ClosingKeeps k.desk.ledger heir new.ledger → StepsBy id k.desk (Retire heir) new
steps_close id k new heir is w keeps applied h =
    let closes = keeps.may applied h in
    let old : LedgerValue = k.desk.ledger in (
      applied,
      keeps.applied.all applied h,
      step_of id k (site_lists k.desk applied) (site_lists new applied) (Retire heir) is (record {
        may = closes.may;
        log =
            ap (λ (l : LogValue). l.entries) w.log
            ∙ ap (λ ms. old.log.entries ++ entry_at_end old.log.site old.log.entries ms ∷ []) closes.moves;
        applied = λ o. refl;
      }),
    )

-- the next entry of o was applied
pub steps_apply : (id : DeskId) (k : KeptValue) (new : DeskValue) (o : ℕ) (e : EntryValue) → IsKept id k
    → (a : AppliesEntry k.desk.ledger o e new.ledger) → ApplyKeeps k.desk.ledger o e a.between new.ledger → 1 ≤ o
    → o ≤ id.sites → o ≢ id.site
    → is_closed k.desk.ledger.log.entries ≡ false → (peer k.desk.ledger.book o).log.closed ≡ false
    → e.prev ≡ (peer k.desk.ledger.book o).log.end → e.origin ≡ o → IsEntry e → StepsBy id k.desk (Apply o e) new
steps_apply id k new o e is a keeps low high other unclosed live next of entry applied h =
    let later : ℕ → List EntryValue = with_one applied o e in (
      later,
      has_one k.desk.ledger new.ledger applied o e h live next of entry keeps.applied,
      step_of id k (site_lists k.desk applied) (site_lists new later) (Apply o e) is (record {
        from = (low, subst (λ n. o ≤ n) (sym is.same_sites) high);
        differ = λ same. other (sym same ∙ is.site);
        unclosed = unclosed;
        next = next_applied k.desk.ledger applied o e h live next of entry;
        applied = adds_one applied o e;
        log = ap (λ (l : LogValue). l.entries) a.log;
      }),
    )

-- log and book are unchanged
pub steps_none : (id : DeskId) (old new : DeskValue) → new.ledger ≡ old.ledger → StepsBy id old Other new
steps_none id old new same applied h = (
  applied,
  subst (HasApplied applied) (sym same) h,
  record {
    log = ap (λ (l : LedgerValue). l.log.entries) same;
    applied = λ o. refl;
  },
)

-- ---- what is published

has_published : (l : LedgerValue) (peer : ℕ) (m : Option MessageValue) (applied : ℕ → List EntryValue)
    → HasApplied applied l
    → HasApplied applied (record l { log = published_if l.log peer m })
has_published l peer None applied h = h
has_published l peer (Some m) applied h = record { in_book = h.in_book; kept = h.kept }

same_entries : (l : LogValue) (peer : ℕ) (m : Option MessageValue) → (published_if l peer m).entries ≡ l.entries
same_entries l peer None = refl
same_entries l peer (Some m) = refl

pub steps_publish : (id : DeskId) (d : DeskValue) (peer : ℕ) → StepsBy id d Other (after_publish d peer)
steps_publish id d peer applied h =
    let m = next_push d.ledger.log peer in (
      applied,
      has_published d.ledger peer m applied h,
      record { log = same_entries d.ledger.log peer m; applied = λ o. refl },
    )

pub steps_publish_if : {X E : Type 0} (id : DeskId) (old new : DeskValue) (peer : ℕ) (r : Result X E)
    → OnOk r (new ≡ after_publish old peer)
    → OnOk r (StepsBy id old Other new)
steps_publish_if id old new peer (Ok x) same
    = subst (λ (d : DeskValue). StepsBy id old Other d) (sym same) (steps_publish id old peer)
steps_publish_if id old new peer (Err e) same = tt

pub steps_expire : (id : DeskId) (old new : DeskValue) (time : ℕ) (r : Result ℕ DeskError)
    → IfOk r (λ n. DeskExpires old time n new) → OnErr r (new ≡ old)
    → StepsBy id old Other new
steps_expire id old new time (Ok n) ok err = steps_none id old new (ap (λ (d : DeskValue). d.ledger) ok.rest)
steps_expire id old new time (Err e) ok err = steps_none id old new (ap (λ (d : DeskValue). d.ledger) err)

pub steps_skip : (id : DeskId) (d : DeskValue) (peer : ℕ) → StepsBy id d Other (after_skip d peer)
steps_skip id d peer applied h
    = (applied, record { in_book = h.in_book; kept = h.kept }, record { log = refl; applied = λ o. refl })

-- an applier came too late, or in time
pub steps_late : (id : DeskId) (d : DeskValue) (late : Bool) (o : ℕ) (e : EntryValue) → late ≡ true
    → StepsBy id d (apply_change late o e) d
steps_late id d true o e is = steps_none id d d refl
steps_late id d false o e is = absurd (true≢false (sym is))

pub steps_in_time : (id : DeskId) (old new : DeskValue) (late : Bool) (o : ℕ) (e : EntryValue) → late ≡ false
    → StepsBy id old (Apply o e) new
    → StepsBy id old (apply_change late o e) new
steps_in_time id old new false o e is step = step
steps_in_time id old new true o e is step = absurd (true≢false is)

-- ---- by the result

pub steps_spend : (id : DeskId) (k : KeptValue) (new : DeskValue) (n deadline : ℕ) (answer : Spending) → IsKept id k
    → DeskSpends k.desk n deadline answer new → SpendKeeps k.desk n answer new
    → StepsBy id k.desk (spend_change n answer) new
steps_spend id k new n deadline (Spent number) is s keeps = steps_write id k new (Spend n ∷ []) is s.1.entry keeps
steps_spend id k new n deadline (Queued ticket) is s keeps
    = steps_none id k.desk new (ap (λ (d : DeskValue). d.ledger) s.2)

pub steps_answer : (id : DeskId) (k : KeptValue) (new : DeskValue) (ask : AskValue) (answer : AskAnswer)
    (number : Option ℕ) → IsKept id k
    → DeskAnswers k.desk ask answer number new → AnswerKeeps k.desk ask answer new
    → StepsBy id k.desk (answer_change ask answer) new
steps_answer id k new ask (Granted n) number is a keeps
    = steps_write id k new (Grant ask.asker n ask.ask ∷ []) is a.0 keeps
steps_answer id k new ask Deny number is a keeps = steps_none id k.desk new (ap (λ (d : DeskValue). d.ledger) a.1)
steps_answer id k new ask RepeatedDeny number is a keeps
    = steps_none id k.desk new (ap (λ (d : DeskValue). d.ledger) a.1)
steps_answer id k new ask Repeated number is a keeps = steps_none id k.desk new (ap (λ (d : DeskValue). d.ledger) a.1)
steps_answer id k new ask OldAsk number is a keeps = steps_none id k.desk new (ap (λ (d : DeskValue). d.ledger) a.1)

pub steps_serve : (id : DeskId) (k : KeptValue) (new : DeskValue) (ticket number amount : ℕ) → IsKept id k
    → WritesEntry k.desk.ledger (Spend amount ∷ []) new.ledger → EntryKeeps k.desk.ledger (Spend amount ∷ []) new.ledger
    → StepsBy id k.desk (serve_change (Some (ticket, number, amount))) new
steps_serve id k new ticket number amount is w keeps = steps_write id k new (Spend amount ∷ []) is w keeps

-- ---- what the lock's value preserves

abbrev pub HasProtocol : DeskId → KeptValue → Type 0
HasProtocol id k = SiteInvariant id.sites id.site k.desk.ledger.log.entries (lists_of id.site k.records).applied

pub protocol_of : (id : DeskId) (k : KeptValue) → IsKept id k → HasProtocol id k
protocol_of id k is =
    subst (λ (x : ℕ × ℕ). SiteInvariant x.0 x.1 k.desk.ledger.log.entries (lists_of id.site k.records).applied)
    (λ i. (is.same_sites i, is.site i)) is.protocol.applied.kept
