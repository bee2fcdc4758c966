-- The calls at all desks are a schedule of the protocol's steps.
use Rattle.std.proofs.Common.{◌≡◌, ◌≢◌, ℕ, inl, inr, ◌==◌, List, [], ◌∷◌, cond, refl, sym, ap, subst}
use Rattle.std.proofs.lemmas.Bool.{cases_eq, eq-eqb, ne_eqb}
use Rattle.rights_types.specs.Entries.{EntryValue}
use Rattle.rights_protocol.specs.Lists.{Lists}
use Rattle.rights_protocol.specs.Schedules.{SiteLists, LocalChange, LocalStep, Turn, IsSent, TakesTurn, Schedule}
use Rattle.rights_protocol.specs.Schedules.{AllFresh, AtEachMoment, AllPromised, together}
use Rattle.rights_protocol.specs.Schedules.LocalChange.{Write, Apply, Retire, Other}
use Rattle.rights_protocol.proofs.Interleavings.{any_schedule}
use Rattle.site_core.specs.Ledgers.{LedgerValue, HasApplied}
use Rattle.site_core.specs.Desks.{DeskValue}
use Rattle.site_core.proofs.Protocol.{none_applied}
use Rattle.apply_lanes.specs.Names.{DeskId}
use Rattle.apply_lanes.specs.Steps.{site_lists, IsWritten, CallsDesk, CallsDesks, AreUnused, KeepsPromises}

-- the lists of all sites, if these were applied
abbrev all_lists : (ℕ → DeskValue) → (ℕ → ℕ → List EntryValue) → ℕ → SiteLists
all_lists desks applied = λ k. site_lists (desks k) (applied k)

-- s has applied these lists
abbrev with_site : (ℕ → ℕ → List EntryValue) → ℕ → (ℕ → List EntryValue) → ℕ → ℕ → List EntryValue
with_site applied s later = λ k. cond (k == s) later (applied k)

sent_of : (desks : ℕ → DeskValue) (applied : ℕ → ℕ → List EntryValue) (change : LocalChange) → IsWritten desks change
    → IsSent (all_lists desks applied) change
sent_of desks applied (Write ms) h = tt
sent_of desks applied (Apply o e) h = h
sent_of desks applied (Retire heir) h = tt
sent_of desks applied Other h = tt

-- what was applied at the end, and the schedule that led there
record GoesTo (n : ℕ) (old : ℕ → DeskValue) (applied : ℕ → ℕ → List EntryValue) (turns : List Turn)
    (new : ℕ → DeskValue) : Type 0 where
  now : ℕ → ℕ → List EntryValue
  has : (s : ℕ) → HasApplied (now s) (new s).ledger
  schedule : Schedule n (all_lists old applied) turns (all_lists new now)

goes_to : (n : ℕ) (ids : ℕ → DeskId) (old : ℕ → DeskValue)
    (applied : ℕ → ℕ → List EntryValue) (turns : List Turn) (new : ℕ → DeskValue)
    → ((s : ℕ) → (ids s).sites ≡ n) → ((s : ℕ) → (ids s).site ≡ s) → ((s : ℕ) → HasApplied (applied s) (old s).ledger)
    → CallsDesks n ids old turns new → GoesTo n old applied turns new
goes_to n ids old applied [] new system site has same = record {
  now = applied;
  has = λ s. subst (HasApplied (applied s)) (sym (same s)) (has s);
  schedule = λ k. record { log = ap (λ (l : LedgerValue). l.log.entries) (same k); applied = λ o. refl };
}
goes_to n ids old applied (turn ∷ turns) new system site has calls =
    let mid : ℕ → DeskValue = calls.0 in
    let call : CallsDesk n ids old turn mid = calls.1 in
    let s : ℕ = turn.site in
    let step = call.step (applied s) (has s) in
    let later : ℕ → List EntryValue = step.0 in
    let now : ℕ → ℕ → List EntryValue = with_site applied s later in
    let here : now s ≡ later = ap (λ b. cond b later (applied s)) (eq-eqb s s refl) in
    let there : (k : ℕ) → k ≢ s → now k ≡ applied k
    = λ k apart. ap (λ b. cond b later (applied k)) (ne_eqb k s apart) in
    let of_site : HasApplied (now s) (mid s).ledger = subst (λ a. HasApplied a (mid s).ledger) (sym here) step.1 in
    let of_other : (k : ℕ) → k ≢ s → HasApplied (now k) (mid k).ledger =
    λ k apart. subst (λ (x : (ℕ → List EntryValue) × LedgerValue). HasApplied x.0 x.1)
    (λ i. (sym (there k apart) i, sym (call.others k apart) i)) (has k) in
    let mid_has : (k : ℕ) → HasApplied (now k) (mid k).ledger = λ k. elim (cases_eq k s) [
      | inl same ↦ subst (λ j. HasApplied (now j) (mid j).ledger) (sym same) of_site
      | inr apart ↦ of_other k apart
    ] in
    let stepped : LocalStep n s (site_lists (old s) (applied s)) turn.change (site_lists (mid s) (now s)) =
    subst (λ (x : ℕ × ℕ × (ℕ → List EntryValue)). LocalStep x.0 x.1 (site_lists (old s) (applied s)) turn.change
    (site_lists (mid s) x.2))
    (λ i. (system s i, site s i, sym here i)) step.2 in
    let takes : TakesTurn n (all_lists old applied) turn (all_lists mid now) = record {
      site = call.site;
      step = stepped;
      sent = sent_of old applied turn.change call.written;
      others = λ k apart. record {
        log = ap (λ (l : LedgerValue). l.log.entries) (call.others k apart);
        applied = λ o. ap (λ (f : ℕ → List EntryValue). f o) (there k apart);
      };
    } in
    let goes = goes_to n ids mid now turns new system site mid_has calls.2 in
    record { now = goes.now; has = goes.has; schedule = (all_lists mid now, takes, goes.schedule) }

-- what holds at each moment holds at the end
at_last : (P : Lists → Type 0) (n : ℕ) (old : ℕ → SiteLists) (turns : List Turn) (new : ℕ → SiteLists)
    → (s : Schedule n old turns new)
    → AtEachMoment P n old turns new s → P (together n new)
at_last P n old [] new s h = h.1
at_last P n old (turn ∷ turns) new s h = at_last P n s.0 turns new s.2 h.1

pub every_schedule : (n : ℕ) (ids : ℕ → DeskId) (start : ℕ → DeskValue) (turns : List Turn) (now : ℕ → DeskValue)
    → AreUnused n ids start
    → CallsDesks n ids start turns now → KeepsPromises n now
every_schedule n ids start turns now unused calls =
    let nothing : ℕ → ℕ → List EntryValue = λ s o. [] in
    let none : (s : ℕ) → HasApplied (nothing s) (start s).ledger =
    λ s. none_applied (start s).ledger (unused.unused s).nothing_written (unused.unused s).nothing_applied in
    let goes = goes_to n ids start nothing turns now unused.system unused.site none calls in
    let fresh : AllFresh n (all_lists start nothing) = record {
      some = unused.some;
      few = unused.few;
      each = λ s. record { log = (unused.unused s).nothing_written; applied = λ o. refl };
    } in
    let follows = any_schedule n (all_lists start nothing) turns (all_lists now goes.now) fresh goes.schedule in
    record {
      applied = goes.now;
      has = goes.has;
      promised = at_last AllPromised n (all_lists start nothing) turns (all_lists now goes.now) goes.schedule
          follows.promised;
    }
