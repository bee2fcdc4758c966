-- Events at the desk of one site.
use Rattle.std.specs.Prelude.{◌≡◌, ℕ, true, List, [], ◌∷◌, Option, Some, None, Result, Ok, Err}
use Rattle.rights_types.specs.Chains.{end}
use Rattle.rights_types.specs.declared.moves.Move.{Move}
use Rattle.rights_types.specs.declared.moves.Move.TheVariants.{Issue as Issues, Give as Gives}
use Rattle.request_queue.specs.Queues.{front_of}
use Rattle.request_queue.specs.Calls.{TellsOutcome}
use Rattle.site_core.specs.declared.desk.requests.Spending.TheVariants.{Spent as SpentAt, Queued as QueuedAs}
use Rattle.site_core.specs.declared.fault.DeskError.{DeskError}
use Rattle.site_core.specs.Desks.{DeskValue}
use Rattle.site_core.specs.Faults.{post_fault, issue_fault, give_fault, spend_fault, serve_fault, expire_fault}
use Rattle.site_core.specs.Faults.{close_fault, can_spend, can_serve}
use Rattle.site_core.specs.Calls.{DeskWrites, DeskSpends, DeskServes, DeskExpires, DeskPlans, DeskCloses}
use Rattle.world_core.specs.Values.{WorldValue}
use Rattle.world_core.specs.Worlds.{desk, with_desk}
use Rattle.world_core.specs.declared.reply.Reply.{Reply}
use Rattle.world_core.specs.declared.reply.Reply.TheVariants.{Number, Spent, Queued, Served, Expired, Tells, Asks}
use Rattle.world_core.specs.declared.reply.Reply.TheVariants.{Nothing}
use Rattle.world_core.specs.declared.fault.WorldError.{WorldError}
use Rattle.world_core.specs.declared.fault.WorldError.TheVariants.{Desk, OutOfMemory}

-- The desk of s refuses for this cause and nothing changes; or there is none, and the reply and the new desk are in
-- this relation. Only if `Wants` holds may it run out of memory instead.
abbrev pub AtDesk : {A : Type 0} → WorldValue → ℕ → Option DeskError → Type 0 → (Reply A → DeskValue → Type 0)
    → Result (Reply A) WorldError → WorldValue → Type 0
AtDesk old s fault Wants Leaves (Ok reply) new =
    (fault ≡ None) × ((d : DeskValue) × Leaves reply d × (new ≡ with_desk old s d))
AtDesk old s fault Wants Leaves (Err (Desk cause)) new = (fault ≡ Some cause) × (new ≡ old)
AtDesk old s fault Wants Leaves (Err OutOfMemory) new = (fault ≡ None) × Wants × (new ≡ old)
AtDesk old s fault Wants Leaves (Err other) new = ⊥

-- a call that may run out of memory whenever it is not refused, and one that never does
abbrev pub Always : Type 0
Always = Unit {0}

abbrev pub Never : Type 0
Never = ⊥

-- an entry of these moves was written, and its number returned
abbrev pub Writes : {A : Type 0} → DeskValue → List Move → Reply A → DeskValue → Type 0
Writes old ms (Number n) new = DeskWrites old ms new × (n ≡ end new.ledger.log.entries)
Writes old ms reply new = ⊥

abbrev pub PostHappens : {A : Type 0} → WorldValue → ℕ → List Move → Result (Reply A) WorldError → WorldValue → Type 0
PostHappens old s ms outcome new = AtDesk old s (post_fault (desk old s) ms) Always (Writes (desk old s) ms) outcome new

abbrev pub IssueHappens : {A : Type 0} → WorldValue → ℕ → ℕ → Result (Reply A) WorldError → WorldValue → Type 0
IssueHappens old s n outcome new =
    AtDesk old s (issue_fault (desk old s) n) Always (Writes (desk old s) (Issues n ∷ [])) outcome new

abbrev pub GiveHappens : {A : Type 0} → WorldValue → ℕ → ℕ → ℕ → Result (Reply A) WorldError → WorldValue → Type 0
GiveHappens old s j n outcome new =
    AtDesk old s (give_fault (desk old s) j n) Always (Writes (desk old s) (Gives j n ∷ [])) outcome new

abbrev pub Spends : {A : Type 0} → DeskValue → ℕ → ℕ → Reply A → DeskValue → Type 0
Spends old n deadline (Spent number) new = DeskSpends old n deadline (SpentAt number) new
Spends old n deadline (Queued ticket) new = DeskSpends old n deadline (QueuedAs ticket) new
Spends old n deadline reply new = ⊥

-- only a spend that is served at once allocates
abbrev pub SpendHappens : {A : Type 0} → WorldValue → ℕ → ℕ → ℕ → Result (Reply A) WorldError → WorldValue → Type 0
SpendHappens old s n deadline outcome new =
    AtDesk old s (spend_fault (desk old s) n) (can_spend (desk old s) n ≡ true)
    (Spends (desk old s) n deadline) outcome new

abbrev pub Serves : {A : Type 0} → DeskValue → Reply A → DeskValue → Type 0
Serves old (Served ticket number) new = DeskServes old (Some (ticket, number)) new
Serves old Nothing new = DeskServes old None new
Serves old reply new = ⊥

abbrev pub ServeHappens : {A : Type 0} → WorldValue → ℕ → Result (Reply A) WorldError → WorldValue → Type 0
ServeHappens old s outcome new =
    AtDesk old s (serve_fault (desk old s)) (can_serve (desk old s) (front_of (desk old s).queue.waiting) ≡ true)
    (Serves (desk old s)) outcome new

abbrev pub Expires : {A : Type 0} → DeskValue → ℕ → Reply A → DeskValue → Type 0
Expires old time (Expired count) new = DeskExpires old time count new
Expires old time reply new = ⊥

abbrev pub ExpireHappens : {A : Type 0} → WorldValue → ℕ → ℕ → Result (Reply A) WorldError → WorldValue → Type 0
ExpireHappens old s time outcome new =
    AtDesk old s (expire_fault (desk old s) time) Never (Expires (desk old s) time) outcome new

abbrev pub TellsStatus : {A : Type 0} → DeskValue → ℕ → Reply A → DeskValue → Type 0
TellsStatus old ticket (Tells status) new =
    TellsOutcome old.queue ticket status new.queue × (new ≡ record old { queue = new.queue })
TellsStatus old ticket reply new = ⊥

abbrev pub StatusHappens : {A : Type 0} → WorldValue → ℕ → ℕ → Result (Reply A) WorldError → WorldValue → Type 0
StatusHappens old s ticket outcome new = AtDesk old s None Never (TellsStatus (desk old s) ticket) outcome new

abbrev pub PlansAsks : {A : Type 0} → DeskValue → Reply A → DeskValue → Type 0
PlansAsks old (Asks count) new = DeskPlans old count new
PlansAsks old reply new = ⊥

abbrev pub PlanHappens : {A : Type 0} → WorldValue → ℕ → Result (Reply A) WorldError → WorldValue → Type 0
PlanHappens old s outcome new = AtDesk old s None Never (PlansAsks (desk old s)) outcome new

abbrev pub Closes : {A : Type 0} → DeskValue → Option ℕ → Reply A → DeskValue → Type 0
Closes old heir (Number n) new = DeskCloses old heir new × (n ≡ end new.ledger.log.entries)
Closes old heir reply new = ⊥

abbrev pub CloseHappens : {A : Type 0} → WorldValue → ℕ → Option ℕ → Result (Reply A) WorldError → WorldValue → Type 0
CloseHappens old s heir outcome new =
    AtDesk old s (close_fault (desk old s) heir) Always (Closes (desk old s) heir) outcome new
