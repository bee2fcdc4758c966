-- The calls under the lock as steps of the protocol, each of one site. In every schedule of the calls at all desks of
-- a system, the headline and retirement hold.
use Rattle.std.specs.Prelude.{◌≡◌, ◌≢◌, ℕ, ◌≤◌, Bool, true, false, List, [], ◌∷◌, ◌++◌, Option, Some, None}
use Rattle.std.specs.List.{Contains}
use Rattle.rights_types.specs.Entries.{EntryValue}
use Rattle.rights_types.specs.Messages.{AskValue}
use Rattle.rights_types.specs.declared.limits.TheConstants.{MIN_SITES, MAX_SITES}
use Rattle.rights_types.specs.declared.moves.Move.TheVariants.{Spend, Grant}
use Rattle.rights_protocol.specs.Lists.{IsSiteOf}
use Rattle.rights_protocol.specs.Schedules.{SiteLists, LocalChange, LocalStep, Turn, AllPromised, together}
use Rattle.rights_protocol.specs.Schedules.LocalChange.{Write, Apply, Other}
use Rattle.rights_protocol.specs.Crashes.{lists_of, records_by}
use Rattle.transfer_manager.specs.declared.answer.AskAnswer.{AskAnswer}
use Rattle.transfer_manager.specs.declared.answer.AskAnswer.TheVariants.{Grant as Granted}
use Rattle.site_core.specs.Ledgers.{HasApplied}
use Rattle.site_core.specs.Desks.{DeskValue}
use Rattle.site_core.specs.declared.desk.requests.Spending.{Spending}
use Rattle.site_core.specs.declared.desk.requests.Spending.TheVariants.{Spent, Queued}
use Rattle.apply_lanes.specs.Names.{DeskId, IsUnused}
use Rattle.apply_lanes.specs.Kepts.{KeptValue}

-- ---- a call under the lock

-- the lists of the desk's site: its log, and what it applied
abbrev pub site_lists : DeskValue → (ℕ → List EntryValue) → SiteLists
site_lists d applied = record { log = d.ledger.log.entries; applied = applied }

-- The desk's site made this step of the protocol. For any lists that the old desk has applied, the step leads from
-- them to lists that the new desk has applied.
abbrev pub StepsBy : DeskId → DeskValue → LocalChange → DeskValue → Type 0
StepsBy id old change new =
    (applied : ℕ → List EntryValue) → HasApplied applied old.ledger
    → (later : ℕ → List EntryValue) × HasApplied later new.ledger
    × LocalStep id.sites id.site (site_lists old applied) change (site_lists new later)

-- the records of this step of the desk's site were appended, and no others
abbrev pub RecordsBy : DeskId → KeptValue → LocalChange → KeptValue → Type 0
RecordsBy id old change new =
    new.records ≡ old.records ++ records_by id.sites id.site (lists_of id.site old.records) change

-- the step of a spend with this result
abbrev pub spend_change : ℕ → Spending → LocalChange
spend_change n (Spent number) = Write (Spend n ∷ [])
spend_change n (Queued ticket) = Other

-- the step of a serve with this result
abbrev pub serve_change : Option (ℕ × ℕ × ℕ) → LocalChange
serve_change None = Other
serve_change (Some (ticket, number, amount)) = Write (Spend amount ∷ [])

-- the step of an ask that was answered in this way
abbrev pub answer_change : AskValue → AskAnswer → LocalChange
answer_change ask (Granted n) = Write (Grant ask.asker n ask.ask ∷ [])
answer_change ask answer = Other

-- the step of an applier that reaches the desk with the entry e of o, too late or not
abbrev pub apply_change : Bool → ℕ → EntryValue → LocalChange
apply_change true o e = Other
apply_change false o e = Apply o e

-- ---- all desks of a system

-- one writer: an entry of o that is applied is already in the log at o's desk
abbrev pub IsWritten : (ℕ → DeskValue) → LocalChange → Type 0
IsWritten desks (Apply o e) = Contains (desks o).ledger.log.entries e
IsWritten desks change = Unit {0}

-- a call under the lock of one of n desks
pub record CallsDesk (n : ℕ) (ids : ℕ → DeskId) (old : ℕ → DeskValue) (turn : Turn) (new : ℕ → DeskValue) : Type 0 where
  pub site : IsSiteOf n turn.site
  pub step : StepsBy (ids turn.site) (old turn.site) turn.change (new turn.site)
  pub written : IsWritten old turn.change
  pub others : (k : ℕ) → k ≢ turn.site → (new k).ledger ≡ (old k).ledger

-- such calls, one after another, by any threads of any sites
abbrev pub CallsDesks : ℕ → (ℕ → DeskId) → (ℕ → DeskValue) → List Turn → (ℕ → DeskValue) → Type 0
CallsDesks n ids old [] new = (k : ℕ) → (new k).ledger ≡ (old k).ledger
CallsDesks n ids old (turn ∷ turns) new = (mid : ℕ → DeskValue) × CallsDesk n ids old turn mid
    × CallsDesks n ids mid turns new

-- the desks of n sites, which have done nothing yet
pub record AreUnused (n : ℕ) (ids : ℕ → DeskId) (desks : ℕ → DeskValue) : Type 0 where
  pub some : MIN_SITES ≤ n
  pub few : n ≤ MAX_SITES
  pub system : (s : ℕ) → (ids s).sites ≡ n
  pub site : (s : ℕ) → (ids s).site ≡ s
  pub unused : (s : ℕ) → IsUnused (desks s)

-- each desk has applied these lists, and everything promised holds of the logs and these lists
pub record KeepsPromises (n : ℕ) (desks : ℕ → DeskValue) : Type 0 where
  pub applied : ℕ → ℕ → List EntryValue
  pub has : (s : ℕ) → HasApplied (applied s) (desks s).ledger
  pub promised : AllPromised (together n (λ s. site_lists (desks s) (applied s)))

-- the promises hold after any calls, and so whenever no lock is held
abbrev pub EverySchedule : Type 0
EverySchedule = (n : ℕ) (ids : ℕ → DeskId) (start : ℕ → DeskValue) (turns : List Turn) (now : ℕ → DeskValue)
    → AreUnused n ids start → CallsDesks n ids start turns now → KeepsPromises n now
