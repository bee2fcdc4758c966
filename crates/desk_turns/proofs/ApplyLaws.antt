-- The turns of an applier.
use Rattle.std.proofs.Common.{◌≡◌, ℕ, zero, suc, Bool, true, List, Result, Ok, Err, OnOk, inl, inr, refl}
use Rattle.rights_types.specs.Entries.{EntryValue}
use Rattle.apply_lanes.specs.Names.{DeskId}
use Rattle.apply_lanes.specs.Kepts.{KeptValue}
use Rattle.apply_lanes.specs.Appliers.{ApplierValue, Fills}
use Rattle.apply_lanes.specs.declared.applier.StepError.{StepError}
use Rattle.desk_turns.specs.Turns.{TakesTurn}
use Rattle.desk_turns.specs.Applying.{AppliesReady, NoneCame, AppliesBatch, HasApplied, AppliesAll, AppliesHand, TakesAgain}

module _ {G A : Type 0} (id : DeskId) (was : List KeptValue) (old : ApplierValue G A) where
  -- an entry came, and a turn was taken
  pub takes_batch : (taken : ApplierValue G A) (result : Result (ℕ × Bool) StepError) (now : List KeptValue)
      (new : ApplierValue G A) → Fills old true taken
      → TakesTurn id (λ k l. AppliesReady id taken k result new l) was now
      → AppliesBatch id was old result now new
  takes_batch taken result now new fills turn = inl (record { taken = taken; fills = fills; turn = turn })

  -- none came
  pub takes_none : (result : Result (ℕ × Bool) StepError) (now : List KeptValue) (new : ApplierValue G A)
      → NoneCame old result new → now ≡ was → AppliesBatch id was old result now new
  takes_none result now new none same = inr (none, same)

  pub none_applied : HasApplied id was old was old
  none_applied = record { batches = zero; all = (refl, refl) }

  -- one more batch
  pub applies_again : (mid : List KeptValue) (last : ApplierValue G A) (count : ℕ) (now : List KeptValue)
      (new : ApplierValue G A) → HasApplied id was old mid last → AppliesBatch id mid last (Ok (count, true)) now new
      → HasApplied id was old now new
  applies_again mid last count now new h one =
      record { batches = suc h.batches; all = (mid, last, count, h.all, one) }

  -- the last one
  pub applies_all : (mid : List KeptValue) (last : ApplierValue G A) (result : Result (ℕ × Bool) StepError)
      (now : List KeptValue) (new : ApplierValue G A) → HasApplied id was old mid last
      → AppliesBatch id mid last result now new → AppliesAll id was old result now new
  applies_all mid last result now new h one = record { mid = mid; last = last; before = h; ends = one }

  -- an entry came, and was applied again
  pub takes_again : (e : EntryValue) (taken : ApplierValue G A) (result : Result (Unit {0}) StepError) (now : List KeptValue)
      (new : ApplierValue G A) → Fills old true taken
      → TakesTurn id (λ k l. AppliesHand id e taken k result new l) was now → OnOk result (TakesAgain id e was old now new)
  takes_again e taken (Ok done) now new fills turn = record {
    taken = taken;
    fills = fills;
    hand = turn.does.0;
    leaves = turn.does.1;
    turn = record {
      old = turn.old;
      new = turn.new;
      one = turn.one;
      before = turn.before;
      after = turn.after;
      does = turn.does.2;
    };
  }
  takes_again e taken (Err fault) now new fills turn = tt
