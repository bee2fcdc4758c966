-- An applier: one thread's part in applying one log at a shared desk.
use Rattle.std.specs.Prelude.{◌≡◌, ◌≢◌, ℕ, zero, suc, ◌+◌, ◌≤◌, Bool, true, false, not, ◌==◌, ◌||◌, List, [], ◌∷◌, ◌++◌}
use Rattle.std.specs.Prelude.{length, Option, Some, None, Result, Ok, Err, if◌then◌else◌}
use Rattle.rights_types.specs.Entries.{EntryValue, own}
use Rattle.rights_types.specs.Chains.{end, moves_of, IsChain}
use Rattle.rights_types.specs.Rights.{to}
use Rattle.rights_protocol.specs.Retiring.{numbers_in, one_taking}
use Rattle.rights_protocol.specs.Crashes.Record.{Applied as WasApplied}
use Rattle.rights_book.specs.Books.{peer}
use Rattle.site_core.specs.Ledgers.{owed_by, with_takings, ApplyKeeps}
use Rattle.site_core.specs.Desks.{DeskValue}
use Rattle.site_core.specs.Faults.{has_closed}
use Rattle.site_core.specs.Calls.{DeskApplies}
use Rattle.thread_parts.specs.declared.item.Item.{Item}
use Rattle.thread_parts.specs.declared.item.Item.TheVariants.{Entry, End}
use Rattle.apply_lanes.specs.declared.applier.StepError.{StepError}
use Rattle.apply_lanes.specs.declared.applier.StepError.TheVariants.{LaneClosed, OutOfStep, OutOfMemory}
use Rattle.thread_parts.specs.Ends.{OutletValue}
use Rattle.thread_parts.specs.Items.{items_of, end_if, IsItemChain}
use Rattle.apply_lanes.specs.Kepts.{KeptValue, IsKept, raised}
use Rattle.apply_lanes.specs.Names.{DeskId}

-- whose log it applies; the outlet of its lane; its gate; the entry that it took and has not applied; whether it took
-- End; whether it has started to drop entries; and what it reported to the desk's counters
pub record ApplierValue (G A : Type 0) : Type 0 where
  pub origin : ℕ
  pub outlet : OutletValue A
  pub gate : G
  pub hand : Option EntryValue
  pub ended : Bool
  pub dropping : Bool
  pub number : ℕ
  pub received : ℕ

-- what the shards of an applier say, once it is done
pub record AppliedValue : Type 0 where
  pub origin : ℕ
  pub number : ℕ
  pub received : ℕ

abbrev pub in_hand : Option EntryValue → List EntryValue
in_hand None = []
in_hand (Some e) = e ∷ []

-- the book's number of o's log is not the one before the entry, or the book has o's log closed
abbrev pub is_not_next : DeskValue → ℕ → EntryValue → Bool
is_not_next d o e = let p = peer d.ledger.book o in p.log.closed || not (p.log.end == e.prev)

module _ {G A : Type 0} where
  -- what was taken is what was applied, then what was dropped at a closed desk, then the entry in hand; what was
  -- applied is from the origin's log, and number and received are computed from it
  pub record IsCounted (id : DeskId) (a : ApplierValue G A) : Type 0 where
    pub applied : List EntryValue
    pub dropped : List EntryValue
    pub log : IsChain a.origin applied
    pub taken : a.outlet.taken ≡ items_of (applied ++ dropped ++ in_hand a.hand) ++ end_if a.ended
    pub chain : IsItemChain a.outlet.taken
    pub none_dropped : a.dropping ≡ false → dropped ≡ []
    pub number : a.number ≡ end applied
    pub received : a.received ≡ to id.site (moves_of applied)
    pub empty_hand : a.ended ≡ true → a.hand ≡ None

  -- the invariant of every applier of the desk
  pub record IsApplier (id : DeskId) (a : ApplierValue G A) : Type 0 where
    pub site : a.origin ≤ id.sites
    pub other : a.origin ≢ id.site
    pub counted : IsCounted id a

  abbrev pub new_applier : ℕ → OutletValue A → G → ApplierValue G A
  new_applier o outlet gate
      = record {
        origin = o;
        outlet = outlet;
        gate = gate;
        hand = None;
        ended = false;
        dropping = false;
        number = 0;
        received = 0;
      }

  -- ---- applying the entry in hand

  -- the desk had closed when the applier reached it, now or before: the entry is dropped
  abbrev pub is_late : ApplierValue G A → DeskValue → Bool
  is_late a d = a.dropping || has_closed d

  -- the entry is from another site's log, or not the next one of the origin's
  abbrev pub is_out_of_step : ApplierValue G A → DeskValue → EntryValue → Bool
  is_out_of_step a d e = not (e.origin == a.origin) || is_not_next d a.origin e

  abbrev pub step_fault : ApplierValue G A → DeskValue → EntryValue → Option StepError
  step_fault a d e = if is_late a d then None else (if is_out_of_step a d e then Some OutOfStep else None)

  -- the entry was dropped; or it was applied, and then the applier reports its number and what it gives to the site
  abbrev pub dropped : ApplierValue G A → ApplierValue G A
  dropped a = record a { hand = None; dropping = true }

  abbrev pub applied : DeskId → ApplierValue G A → EntryValue → ApplierValue G A
  applied id a e = record a { hand = None; number = own e; received = a.received + to id.site e.moves }

-- a refusal for this fault; without a fault, only lack of memory can refuse
abbrev pub StepRefuses : Option StepError → Result Unit StepError → Type 0
StepRefuses fault (Ok x) = fault ≡ None
StepRefuses fault (Err OutOfMemory) = fault ≡ None
StepRefuses fault (Err e) = fault ≡ Some e

-- under the lock: the entry e advanced the book's number of the origin o, and what it received from there; all else is
-- unchanged, except for one entry that takes back what a closing entry leaves behind, and for asks that e grants
pub record MovesOn (site : ℕ) (old : DeskValue) (o : ℕ) (e : EntryValue) (new : DeskValue) : Type 0 where
  pub applies : DeskApplies old o e new
  pub keeps : ApplyKeeps old.ledger o e applies.entry.between new.ledger
  pub from : (peer old.ledger.book o).log.end ≡ e.prev
  pub up_to : (peer new.ledger.book o).log.end ≡ own e
  pub received : (peer new.ledger.book o).received ≡ (peer old.ledger.book o).received + to site e.moves
  pub log : new.ledger.log ≡ with_takings old.ledger.log (one_taking o (owed_by old.ledger o e))
  pub same_queue : new.queue ≡ old.queue
  pub same_given : (j : ℕ) → (peer new.ledger.book j).given ≡ (peer old.ledger.book j).given
  pub others : (k : ℕ) → k ≢ o → (peer new.ledger.book k).log ≡ (peer old.ledger.book k).log
  pub others_received : (k : ℕ) → k ≢ o → (peer new.ledger.book k).received ≡ (peer old.ledger.book k).received

abbrev pub counted_on : DeskId → KeptValue → EntryValue → DeskValue → KeptValue
counted_on id k e d = record k {
  desk = d;
  number = raised k.number (length e.moves);
  received = raised k.received (to id.site e.moves);
  records = k.records ++ WasApplied e ∷ [];
}

-- ---- a step

-- the lane's outlet after one more item
abbrev pub with_taken : {A : Type 0} → OutletValue A → Item A → OutletValue A
with_taken o x = record o { taken = o.taken ++ x ∷ []; dead = false }

module _ {G A : Type 0} where
  -- the entry e is in hand: it was there already, or it is the next one that was taken
  abbrev pub HasNext : Option EntryValue → ApplierValue G A → EntryValue → ApplierValue G A → Type 0
  HasNext None old e new = new ≡ record old { outlet = with_taken old.outlet (Entry e); hand = Some e }
  HasNext (Some f) old e new = (f ≡ e) × (new ≡ old)

  -- End was taken, now or before
  abbrev pub HasEnded : Bool → ApplierValue G A → ApplierValue G A → Type 0
  HasEnded true old new = new ≡ old
  HasEnded false old new = (old.hand ≡ None) × (new ≡ record old { outlet = with_taken old.outlet End; ended = true })

  -- the next entry is in hand; or End was taken and there is none
  abbrev pub Fills : ApplierValue G A → Bool → ApplierValue G A → Type 0
  Fills old true new = (old.ended ≡ false) × (e : EntryValue) × HasNext old.hand old e new
  Fills old false new = HasEnded old.ended old new

  -- with the entry e in hand the applier has passed its gate, and holds the lock, whose value is k
  pub record ComesToDesk (passes : G → ℕ → G → Type 0) (id : DeskId) (old : ApplierValue G A) (e : EntryValue)
      (k : KeptValue) (new : ApplierValue G A) : Type 0 where
    pub unended : old.ended ≡ false
    pub taken : ApplierValue G A
    pub next : HasNext old.hand old e taken
    pub passed : passes taken.gate taken.origin new.gate
    pub rest : new ≡ record taken { gate = new.gate }
    pub kept : IsKept id k

  -- under the lock the entry in hand was dropped if the desk had closed, and else applied
  abbrev pub LeavesHand : DeskId → Bool → ApplierValue G A → EntryValue → ApplierValue G A → Type 0
  LeavesHand id true old e new = new ≡ dropped old
  LeavesHand id false old e new = new ≡ applied id old e

  -- one more entry was applied or dropped; or End was taken and there is none
  abbrev pub Steps : (G → ℕ → G → Type 0) → DeskId → ApplierValue G A → Bool → ApplierValue G A → Type 0
  Steps passes id old true new =
      (e : EntryValue) × (k : KeptValue) × (mid : ApplierValue G A) × ComesToDesk passes id old e k mid
      × (step_fault mid k.desk e ≡ None) × LeavesHand id (is_late mid k.desk) mid e new
  Steps passes id old false new = HasEnded old.ended old new

  -- a step that failed: nothing arrived; or the entry is out of step, or memory was refused, and then it is in hand
  abbrev pub StepFails : (G → ℕ → G → Type 0) → DeskId → ApplierValue G A → StepError → ApplierValue G A → Type 0
  StepFails passes id old LaneClosed new
      = (old.hand ≡ None) × (new ≡ record old { outlet = record old.outlet { dead = true } })
  StepFails passes id old OutOfStep new =
      (e : EntryValue) × (k : KeptValue) × ComesToDesk passes id old e k new
      × (step_fault new k.desk e ≡ Some OutOfStep)
  StepFails passes id old OutOfMemory new =
      (e : EntryValue) × (k : KeptValue) × ComesToDesk passes id old e k new × (step_fault new k.desk e ≡ None)
      × ¬ (numbers_in e.moves ≡ None)

  -- this number of entries was applied or dropped, one after another
  abbrev pub Advances : (G → ℕ → G → Type 0) → DeskId → ApplierValue G A → ℕ → ApplierValue G A → Type 0
  Advances passes id old zero new = new ≡ old
  Advances passes id old (suc n) new = (last : ApplierValue G A) × Advances passes id old n last
      × Steps passes id last true new

  -- this number of entries, and then End
  abbrev pub Runs : (G → ℕ → G → Type 0) → DeskId → ApplierValue G A → ℕ → ApplierValue G A → Type 0
  Runs passes id old n new = (last : ApplierValue G A) × Advances passes id old n last × Steps passes id last false new

  -- some number of entries, and then a step that failed
  abbrev pub RunFails : (G → ℕ → G → Type 0) → DeskId → ApplierValue G A → StepError → ApplierValue G A → Type 0
  RunFails passes id old fault new =
      (n : ℕ) × (last : ApplierValue G A) × Advances passes id old n last × StepFails passes id last fault new
