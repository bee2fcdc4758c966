-- Each event at a desk preserves the invariant of the world.
use Rattle.std.proofs.Common.{◌≡◌, ℕ, true, List, [], ◌∷◌, Option, None, Result, Ok, Err, ap, sym, subst, ◌∙◌}
use Rattle.std.proofs.lemmas.Bool.{both_ways}
use Rattle.rights_types.specs.declared.moves.Move.{Move}
use Rattle.rights_types.specs.declared.moves.Move.TheVariants.{Issue as Issues, Give as Gives, Spend as SpendsRights}
use Rattle.rights_protocol.specs.Lists.{IsSiteOf}
use Rattle.site_core.specs.declared.fault.DeskError.{DeskError}
use Rattle.site_core.specs.Desks.{DeskValue}
use Rattle.site_core.specs.Ledgers.{IsWritable}
use Rattle.site_core.specs.Faults.{has_closed, post_fault, issue_fault, give_fault, spend_fault, serve_fault}
use Rattle.site_core.specs.Faults.{expire_fault, close_fault, can_spend, can_serve}
use Rattle.site_core.specs.Calls.{DeskWrites, in_time}
use Rattle.site_core.proofs.Tested.{post_writable, issue_writable, give_writable, spend_unclosed, spend_writable}
use Rattle.site_core.proofs.Tested.{serve_writable, CanClose, can_close}
use Rattle.request_queue.specs.Queues.{QueueValue, front_of}
use Rattle.request_queue.specs.Calls.{TellsOutcome}
use Rattle.request_queue.specs.declared.request.Status.{Status}
use Rattle.request_queue.specs.declared.request.Status.TheVariants.{Waiting, Spent as SaysSpent, Expired as SaysExpired}
use Rattle.request_queue.specs.declared.request.Status.TheVariants.{Unknown}
use Rattle.world_core.specs.Values.{WorldValue}
use Rattle.world_core.specs.Worlds.{count, desk, with_desk}
use Rattle.world_core.specs.Faults.{site_fault}
use Rattle.world_core.specs.DeskEvents.{AtDesk, Always, Never, Writes, Spends, Serves, Expires, TellsStatus, PlansAsks}
use Rattle.world_core.specs.DeskEvents.{Closes, PostHappens, IssueHappens, GiveHappens, SpendHappens, ServeHappens}
use Rattle.world_core.specs.DeskEvents.{ExpireHappens, StatusHappens, PlanHappens, CloseHappens}
use Rattle.world_core.specs.Sound.{IsWorld}
use Rattle.world_core.specs.declared.reply.Reply.{Reply}
use Rattle.world_core.specs.declared.reply.Reply.TheVariants.{Number, Spent, Queued, Served, Expired, Tells, Asks}
use Rattle.world_core.specs.declared.reply.Reply.TheVariants.{Nothing}
use Rattle.world_core.specs.declared.fault.WorldError.{WorldError}
use Rattle.world_core.specs.declared.fault.WorldError.TheVariants.{Desk, OutOfMemory}
use Rattle.world_core.proofs.WorldGoesOn.{WorldGoesOn, unchanged}
use Rattle.world_core.proofs.DeskKeeps.{wrote, closed, same_ledger, same_requests}
use Rattle.world_core.proofs.EventPlaces.{site_known}

-- whatever a desk that refuses nothing may leave with a reply preserves the invariant, so the event does, whatever its
-- result
pub at_desk : {A : Type 0} (old new : WorldValue) (s : ℕ) (fault : Option DeskError) (Wants : Type 0)
    → (Leaves : Reply A → DeskValue → Type 0) (outcome : Result (Reply A) WorldError) → IsWorld old
    → (fault ≡ None → (reply : Reply A) (d : DeskValue) → Leaves reply d → WorldGoesOn old (with_desk old s d))
    → AtDesk old s fault Wants Leaves outcome new → WorldGoesOn old new
at_desk old new s fault Wants Leaves (Ok reply) is keeps h =
    subst (WorldGoesOn old) (sym h.1.2) (keeps h.0 reply h.1.0 h.1.1)
at_desk old new s fault Wants Leaves (Err (Desk cause)) is keeps h =
    subst (WorldGoesOn old) (sym h.1) (unchanged old is)
at_desk old new s fault Wants Leaves (Err OutOfMemory) is keeps h = subst (WorldGoesOn old) (sym h.2) (unchanged old is)
at_desk old new s fault Wants Leaves (Err other) is keeps h = absurd h

-- ---- entries

-- a desk that wrote an entry
desk_wrote : (w : WorldValue) (s : ℕ) (ms : List Move) (d : DeskValue) → IsWorld w → IsSiteOf (count w) s
    → IsWritable (desk w s).ledger ms → DeskWrites (desk w s) ms d → WorldGoesOn w (with_desk w s d)
desk_wrote w s ms d is site ok h = wrote w s ms d is site ok h.entry (ap (λ (x : DeskValue). x.manager.me) h.rest)

-- .. and returned its number
writes_keep : {A : Type 0} (w : WorldValue) (s : ℕ) (ms : List Move) (reply : Reply A) (d : DeskValue) → IsWorld w
    → IsSiteOf (count w) s → IsWritable (desk w s).ledger ms → Writes (desk w s) ms reply d
    → WorldGoesOn w (with_desk w s d)
writes_keep w s ms (Number n) d is site ok h = desk_wrote w s ms d is site ok h.0
writes_keep w s ms reply d is site ok h = absurd h

-- a post, an issue and a gift write an entry
pub post_keeps : {A : Type 0} (old new : WorldValue) (s : ℕ) (ms : List Move) (outcome : Result (Reply A) WorldError)
    → IsWorld old → site_fault old s ≡ None → PostHappens old s ms outcome new → WorldGoesOn old new
post_keeps old new s ms outcome is known h =
    at_desk old new s (post_fault (desk old s) ms) Always (Writes (desk old s) ms) outcome is
    (λ none reply d. writes_keep old s ms reply d is (site_known old s known) (post_writable (desk old s) ms none)) h

pub issue_keeps : {A : Type 0} (old new : WorldValue) (s n : ℕ) (outcome : Result (Reply A) WorldError) → IsWorld old
    → site_fault old s ≡ None → IssueHappens old s n outcome new → WorldGoesOn old new
issue_keeps old new s n outcome is known h =
    let ms : List Move = Issues n ∷ [] in
    at_desk old new s (issue_fault (desk old s) n) Always (Writes (desk old s) ms) outcome is
    (λ none reply d. writes_keep old s ms reply d is (site_known old s known) (issue_writable (desk old s) n none)) h

pub give_keeps : {A : Type 0} (old new : WorldValue) (s j n : ℕ) (outcome : Result (Reply A) WorldError) → IsWorld old
    → site_fault old s ≡ None → GiveHappens old s j n outcome new → WorldGoesOn old new
give_keeps old new s j n outcome is known h =
    let ms : List Move = Gives j n ∷ [] in
    at_desk old new s (give_fault (desk old s) j n) Always (Writes (desk old s) ms) outcome is
    (λ none reply d. writes_keep old s ms reply d is (site_known old s known) (give_writable (desk old s) j n none)) h

-- ---- spends

-- a spend is served at once or waits
spends_keep : {A : Type 0} (w : WorldValue) (s n deadline : ℕ) (reply : Reply A) (d : DeskValue) → IsWorld w
    → IsSiteOf (count w) s → spend_fault (desk w s) n ≡ None → Spends (desk w s) n deadline reply d
    → WorldGoesOn w (with_desk w s d)
spends_keep w s n deadline (Spent number) d is site none h =
    desk_wrote w s (SpendsRights n ∷ []) d is site (spend_writable (desk w s) n none h.0) h.1
spends_keep w s n deadline (Queued ticket) d is site none h =
    same_ledger w s d is site (ap (λ (x : DeskValue). x.ledger) h.2) (ap (λ (x : DeskValue). x.manager.me) h.2)
    (λ closed. absurd (both_ways (has_closed (desk w s)) (spend_unclosed (desk w s) n none) closed))
spends_keep w s n deadline reply d is site none h = absurd h

pub spend_keeps : {A : Type 0} (old new : WorldValue) (s n deadline : ℕ) (outcome : Result (Reply A) WorldError)
    → IsWorld old → site_fault old s ≡ None → SpendHappens old s n deadline outcome new → WorldGoesOn old new
spend_keeps old new s n deadline outcome is known h =
    at_desk old new s (spend_fault (desk old s) n) (can_spend (desk old s) n ≡ true)
    (Spends (desk old s) n deadline) outcome is
    (λ none reply d. spends_keep old s n deadline reply d is (site_known old s known) none) h

-- the spend at the front is served, or none
serves_keep : {A : Type 0} (w : WorldValue) (s : ℕ) (reply : Reply A) (d : DeskValue) → IsWorld w → IsSiteOf (count w) s
    → serve_fault (desk w s) ≡ None → Serves (desk w s) reply d → WorldGoesOn w (with_desk w s d)
serves_keep w s (Served ticket number) d is site none h =
    let ok : IsWritable (desk w s).ledger (SpendsRights h.amount ∷ []) =
    serve_writable (desk w s) ticket h.amount h.deadline (is.sites s site).sound.idle none h.front h.covered in
    wrote w s (SpendsRights h.amount ∷ []) d is site ok h.entry (ap (λ (x : DeskValue). x.manager.me) h.rest)
serves_keep w s Nothing d is site none h =
    same_requests w s d is site (ap (λ (x : DeskValue). x.ledger) h.1) (ap (λ (x : DeskValue). x.manager.me) h.1)
    (ap (λ (x : DeskValue). x.queue) h.1)
serves_keep w s reply d is site none h = absurd h

pub serve_keeps : {A : Type 0} (old new : WorldValue) (s : ℕ) (outcome : Result (Reply A) WorldError) → IsWorld old
    → site_fault old s ≡ None → ServeHappens old s outcome new → WorldGoesOn old new
serve_keeps old new s outcome is known h =
    at_desk old new s (serve_fault (desk old s)) (can_serve (desk old s) (front_of (desk old s).queue.waiting) ≡ true)
    (Serves (desk old s)) outcome is
    (λ none reply d. serves_keep old s reply d is (site_known old s known) none) h

-- late spends expire
expires_keep : {A : Type 0} (w : WorldValue) (s time : ℕ) (reply : Reply A) (d : DeskValue) → IsWorld w
    → IsSiteOf (count w) s → Expires (desk w s) time reply d → WorldGoesOn w (with_desk w s d)
expires_keep w s time (Expired n) d is site h =
    same_ledger w s d is site (ap (λ (x : DeskValue). x.ledger) h.rest) (ap (λ (x : DeskValue). x.manager.me) h.rest)
    (λ closed. h.queue.waiting ∙ ap (in_time time) ((is.sites s site).sound.idle closed))
expires_keep w s time reply d is site h = absurd h

pub expire_keeps : {A : Type 0} (old new : WorldValue) (s time : ℕ) (outcome : Result (Reply A) WorldError)
    → IsWorld old → site_fault old s ≡ None → ExpireHappens old s time outcome new → WorldGoesOn old new
expire_keeps old new s time outcome is known h =
    at_desk old new s (expire_fault (desk old s) time) Never (Expires (desk old s) time) outcome is
    (λ none reply d. expires_keep old s time reply d is (site_known old s known)) h

-- which leaves what waits
told_waiting : (old new : QueueValue) (ticket : ℕ) (status : Status) → TellsOutcome old ticket status new
    → new.waiting ≡ old.waiting
told_waiting old new ticket Waiting h = ap (λ (q : QueueValue). q.waiting) h.2
told_waiting old new ticket (SaysSpent number) h = ap (λ (q : QueueValue). q.waiting) h.1
told_waiting old new ticket SaysExpired h = ap (λ (q : QueueValue). q.waiting) h.1
told_waiting old new ticket Unknown h = ap (λ (q : QueueValue). q.waiting) h.2

-- an outcome is reported
tells_keep : {A : Type 0} (w : WorldValue) (s ticket : ℕ) (reply : Reply A) (d : DeskValue) → IsWorld w
    → IsSiteOf (count w) s → TellsStatus (desk w s) ticket reply d → WorldGoesOn w (with_desk w s d)
tells_keep w s ticket (Tells status) d is site h =
    same_ledger w s d is site (ap (λ (x : DeskValue). x.ledger) h.1) (ap (λ (x : DeskValue). x.manager.me) h.1)
    (λ closed. told_waiting (desk w s).queue d.queue ticket status h.0 ∙ (is.sites s site).sound.idle closed)
tells_keep w s ticket reply d is site h = absurd h

pub status_keeps : {A : Type 0} (old new : WorldValue) (s ticket : ℕ) (outcome : Result (Reply A) WorldError)
    → IsWorld old → site_fault old s ≡ None → StatusHappens old s ticket outcome new → WorldGoesOn old new
status_keeps old new s ticket outcome is known h =
    at_desk old new s None Never (TellsStatus (desk old s) ticket) outcome is
    (λ none reply d. tells_keep old s ticket reply d is (site_known old s known)) h

-- ---- asks that are planned

-- asks are planned
plans_keep : {A : Type 0} (w : WorldValue) (s : ℕ) (reply : Reply A) (d : DeskValue) → IsWorld w → IsSiteOf (count w) s
    → PlansAsks (desk w s) reply d → WorldGoesOn w (with_desk w s d)
plans_keep w s (Asks n) d is site h =
    same_requests w s d is site (ap (λ (x : DeskValue). x.ledger) h.rest) h.by_book.same.same_me
    (ap (λ (x : DeskValue). x.queue) h.rest)
plans_keep w s reply d is site h = absurd h

pub plan_keeps : {A : Type 0} (old new : WorldValue) (s : ℕ) (outcome : Result (Reply A) WorldError) → IsWorld old
    → site_fault old s ≡ None → PlanHappens old s outcome new → WorldGoesOn old new
plan_keeps old new s outcome is known h =
    at_desk old new s None Never (PlansAsks (desk old s)) outcome is
    (λ none reply d. plans_keep old s reply d is (site_known old s known)) h

-- ---- a close

-- the site closes
closes_keep : {A : Type 0} (w : WorldValue) (s : ℕ) (heir : Option ℕ) (reply : Reply A) (d : DeskValue) → IsWorld w
    → IsSiteOf (count w) s → close_fault (desk w s) heir ≡ None → Closes (desk w s) heir reply d
    → WorldGoesOn w (with_desk w s d)
closes_keep w s heir (Number n) d is site none h =
    let can : CanClose (desk w s) heir =
    can_close (desk w s) heir (is.sites s site).sound.ledger.same_site h.0.entry.site none in
    closed w s heir d is site can h.0.entry (ap (λ (x : DeskValue). x.manager.me) h.0.rest)
    (ap (λ (x : DeskValue). x.queue) h.0.rest)
closes_keep w s heir reply d is site none h = absurd h

pub close_keeps : {A : Type 0} (old new : WorldValue) (s : ℕ) (heir : Option ℕ) (outcome : Result (Reply A) WorldError)
    → IsWorld old → site_fault old s ≡ None → CloseHappens old s heir outcome new → WorldGoesOn old new
close_keeps old new s heir outcome is known h =
    at_desk old new s (close_fault (desk old s) heir) Always (Closes (desk old s) heir) outcome is
    (λ none reply d. closes_keep old s heir reply d is (site_known old s known) none) h
