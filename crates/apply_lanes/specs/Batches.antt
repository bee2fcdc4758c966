-- An applier that works under one hold of the lock: so many steps, one after another.
use Rattle.std.specs.Prelude.{◌≡◌, ℕ, zero, suc, ◌≤◌, ◌<◌, Bool, true, false, Some, None, Err}
use Rattle.rights_types.specs.Entries.{EntryValue}
use Rattle.rights_protocol.specs.Retiring.{numbers_in}
use Rattle.apply_lanes.specs.declared.applier.StepError.{StepError}
use Rattle.apply_lanes.specs.declared.applier.StepError.TheVariants.{OutOfMemory}
use Rattle.apply_lanes.specs.declared.applier.batch.TheConstants.{MAX_BATCH}
use Rattle.apply_lanes.specs.Names.{DeskId}
use Rattle.apply_lanes.specs.Kepts.{KeptValue, IsKept}
use Rattle.apply_lanes.specs.Appliers.{ApplierValue, IsCounted, is_late, step_fault, StepRefuses, MovesOn, counted_on}
use Rattle.apply_lanes.specs.Appliers.{Fills, HasEnded, LeavesHand, Advances, Runs, RunFails}
use Rattle.apply_lanes.specs.Steps.{StepsBy, RecordsBy, apply_change}

-- under the lock: too late, the entry e of o changes nothing; else it moves the desk on, and is counted
abbrev pub LeavesLock : DeskId → Bool → KeptValue → ℕ → EntryValue → KeptValue → Type 0
LeavesLock id true old o e new = new ≡ old
LeavesLock id false old o e new = MovesOn id.site old.desk o e new.desk × (new ≡ counted_on id old e new.desk)

-- a gate that does nothing was passed
abbrev pub stays : {G : Type 0} → G → ℕ → G → Type 0
stays old o new = new ≡ old

module _ {G A : Type 0} where
  -- Under the lock, whose value is k, the entry e was in hand. It was dropped if the desk had closed, and else applied.
  pub record Handles (id : DeskId) (old : ApplierValue G A) (k : KeptValue) (e : EntryValue) (new : ApplierValue G A)
      (l : KeptValue) : Type 0 where
    pub held : old.hand ≡ Some e
    pub kept : IsKept id k
    pub fits : step_fault old k.desk e ≡ None
    pub hand : LeavesHand id (is_late old k.desk) old e new
    pub lock : LeavesLock id (is_late old k.desk) k old.origin e l
    pub step : StepsBy id k.desk (apply_change (is_late old k.desk) old.origin e) l.desk
    pub records : RecordsBy id k (apply_change (is_late old k.desk) old.origin e) l
    pub counted : IsCounted id new

  -- the next entry was taken, unless one was in hand, and handled under the lock
  pub record HandlesNext (id : DeskId) (old : ApplierValue G A) (k : KeptValue) (new : ApplierValue G A)
      (l : KeptValue) : Type 0 where
    pub taken : ApplierValue G A
    pub fills : Fills old true taken
    pub handles : Handles id taken k fills.1 new l

  -- the next entry was taken, unless one was in hand; it stays there for this fault
  pub record KeepsNext (id : DeskId) (old : ApplierValue G A) (k : KeptValue) (fault : StepError)
      (new : ApplierValue G A) : Type 0 where
    pub fills : Fills old true new
    pub kept : IsKept id k
    pub refused : StepRefuses (step_fault new k.desk fills.1) (Err fault)
    pub memory : fault ≡ OutOfMemory → ¬ (numbers_in fills.1.moves ≡ None)

  -- this number of entries was handled, one after another, and the lock was held all the time
  abbrev pub HandlesAll : DeskId → ApplierValue G A → KeptValue → ℕ → ApplierValue G A → KeptValue → Type 0
  HandlesAll id old k zero new l = (new ≡ old) × (l ≡ k)
  HandlesAll id old k (suc n) new l =
      (last : ApplierValue G A) × (j : KeptValue) × HandlesAll id old k n last j × HandlesNext id last j new l

  -- under the lock: this number of entries, and none is in hand; and where no more come, End was taken
  abbrev pub HandlesBatch : DeskId → ApplierValue G A → KeptValue → ℕ → Bool → ApplierValue G A → KeptValue → Type 0
  HandlesBatch id old k n true new l = HandlesAll id old k n new l × (new.hand ≡ None)
  HandlesBatch id old k n false new l = (last : ApplierValue G A) × HandlesAll id old k n last l
      × HasEnded last.ended last new

  -- under the lock: some number of entries, and then one that stays in hand for this fault
  abbrev pub BatchFails : DeskId → ApplierValue G A → KeptValue → StepError → ApplierValue G A → KeptValue → Type 0
  BatchFails id old k fault new l =
      (n : ℕ) × (n < MAX_BATCH) × (last : ApplierValue G A) × HandlesAll id old k n last l
      × KeepsNext id last l fault new

  -- this number of steps, at least one; or so many and then End
  abbrev pub StepsReady : DeskId → ApplierValue G A → ℕ → Bool → ApplierValue G A → Type 0
  StepsReady id old n true new = (1 ≤ n) × Advances stays id old n new
  StepsReady id old n false new = Runs stays id old n new

  -- some number of steps, and then one that failed
  abbrev pub ReadyFails : DeskId → ApplierValue G A → StepError → ApplierValue G A → Type 0
  ReadyFails id old fault new = RunFails stays id old fault new
