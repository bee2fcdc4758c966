-- The turns of an applier at a desk: a batch of entries in each; or one entry, as a site starts again.
use Rattle.std.specs.Prelude.{◌≡◌, ℕ, zero, suc, ◌⊎◌, Bool, true, false, List, Some, None, Result, Ok, Err, IfOk, IfErr}
use Rattle.rights_types.specs.Entries.{EntryValue}
use Rattle.apply_lanes.specs.Names.{DeskId}
use Rattle.apply_lanes.specs.Kepts.{KeptValue}
use Rattle.apply_lanes.specs.Appliers.{ApplierValue, Fills, applied}
use Rattle.apply_lanes.specs.Batches.{HandlesBatch, BatchFails}
use Rattle.apply_lanes.specs.Restarts.{AppliesAgain}
use Rattle.apply_lanes.specs.declared.applier.StepError.{StepError}
use Rattle.apply_lanes.specs.declared.applier.StepError.TheVariants.{LaneClosed}
use Rattle.desk_turns.specs.Turns.{TakesTurn}

module _ {G A : Type 0} where
  -- the entry in hand and those that waited were handled at the desk, so many, and more may come or not; or one of them
  -- stays in hand for this fault
  pub record AppliesReady (id : DeskId) (was : ApplierValue G A) (old : KeptValue) (result : Result (ℕ × Bool) StepError)
      (now : ApplierValue G A) (new : KeptValue) : Type 0 where
    pub ok : IfOk result (λ r. HandlesBatch id was old r.0 r.1 now new)
    pub err : IfErr result (λ fault. BatchFails id was old fault now new)

  -- an entry was in hand or came, and then this was done in one turn
  pub record TakesBatch (id : DeskId) (was : List KeptValue) (old : ApplierValue G A)
      (result : Result (ℕ × Bool) StepError) (now : List KeptValue) (new : ApplierValue G A) : Type 0 where
    pub taken : ApplierValue G A
    pub fills : Fills old true taken
    pub turn : TakesTurn id (λ k l. AppliesReady id taken k result new l) was now

  -- no entry came: End did, or the lane's other end is gone
  abbrev pub NoneCame : ApplierValue G A → Result (ℕ × Bool) StepError → ApplierValue G A → Type 0
  NoneCame old (Ok (count, more)) new = (count ≡ 0) × (more ≡ false) × Fills old false new
  NoneCame old (Err fault) new =
      (fault ≡ LaneClosed) × (old.hand ≡ None) × (new ≡ record old { outlet = record old.outlet { dead = true } })

  -- one batch in one turn, or none in none
  abbrev pub AppliesBatch : DeskId → List KeptValue → ApplierValue G A → Result (ℕ × Bool) StepError → List KeptValue
      → ApplierValue G A → Type 0
  AppliesBatch id was old result now new =
      TakesBatch id was old result now new ⊎ (NoneCame old result new × (now ≡ was))

  -- this many batches in as many turns, one after another
  abbrev pub Batches : DeskId → ℕ → List KeptValue → ApplierValue G A → List KeptValue → ApplierValue G A → Type 0
  Batches id zero was old now new = (now ≡ was) × (new ≡ old)
  Batches id (suc n) was old now new =
      (mid : List KeptValue) × (last : ApplierValue G A) × (count : ℕ) × Batches id n was old mid last
      × AppliesBatch id mid last (Ok (count, true)) now new

  pub record HasApplied (id : DeskId) (was : List KeptValue) (old : ApplierValue G A) (now : List KeptValue)
      (new : ApplierValue G A) : Type 0 where
    pub batches : ℕ
    pub all : Batches id batches was old now new

  -- .. and then a last one
  pub record AppliesAll (id : DeskId) (was : List KeptValue) (old : ApplierValue G A)
      (result : Result (ℕ × Bool) StepError) (now : List KeptValue) (new : ApplierValue G A) : Type 0 where
    pub mid : List KeptValue
    pub last : ApplierValue G A
    pub before : HasApplied id was old mid last
    pub ends : AppliesBatch id mid last result now new

  -- ---- a start from a journal

  -- the entry in hand was this one, and it was applied again; or it was refused, and nothing changed
  abbrev pub AppliesHand : DeskId → EntryValue → ApplierValue G A → KeptValue → Result (Unit {0}) StepError
      → ApplierValue G A → KeptValue → Type 0
  AppliesHand id e was old (Ok done) now new = (was.hand ≡ Some e) × (now ≡ applied id was e) × AppliesAgain id old e new
  AppliesHand id e was old (Err fault) now new = (now ≡ was) × (new ≡ old)

  -- the next entry was this one, and in one turn it was applied again
  pub record TakesAgain (id : DeskId) (e : EntryValue) (was : List KeptValue) (old : ApplierValue G A)
      (now : List KeptValue) (new : ApplierValue G A) : Type 0 where
    pub taken : ApplierValue G A
    pub fills : Fills old true taken
    pub hand : taken.hand ≡ Some e
    pub leaves : new ≡ applied id taken e
    pub turn : TakesTurn id (λ k l. AppliesAgain id k e l) was now
