-- Several entries under one hold of the lock are so many steps.
use Rattle.std.proofs.Common.{◌≡◌, ℕ, zero, suc, ◌+◌, ◌≤◌, Bool, true, false, Option, Some, None, Result, Ok, Err, IfOk}
use Rattle.std.proofs.Common.{IfErr, refl, sym, ap, ◌∙◌, subst, arith}
use Rattle.rights_types.specs.Entries.{EntryValue}
use Rattle.rights_protocol.specs.Retiring.{numbers_in}
use Rattle.apply_lanes.specs.declared.applier.StepError.{StepError}
use Rattle.apply_lanes.specs.declared.applier.StepError.TheVariants.{OutOfMemory}
use Rattle.apply_lanes.specs.Names.{DeskId}
use Rattle.apply_lanes.specs.Kepts.{KeptValue, IsKept}
use Rattle.apply_lanes.specs.Appliers.{ApplierValue, IsCounted, is_late, step_fault, StepRefuses, dropped, applied}
use Rattle.apply_lanes.specs.Appliers.{MovesOn, counted_on, HasNext, HasEnded, Fills, LeavesHand, Steps, StepFails}
use Rattle.apply_lanes.specs.Appliers.{Advances, Runs}
use Rattle.apply_lanes.specs.Steps.{StepsBy, RecordsBy, apply_change}
use Rattle.apply_lanes.specs.Batches.{LeavesLock, Handles, HandlesNext, KeepsNext, HandlesAll, HandlesBatch, BatchFails}
use Rattle.apply_lanes.specs.Batches.{stays, StepsReady, ReadyFails}
use Rattle.apply_lanes.proofs.ApplierLaws.{next_hand, leaves_hand, step_failed}

none_some : (h : Option EntryValue) (e : EntryValue) → h ≡ None → h ≡ Some e → ⊥
none_some h e none some = cc

leaves_lock : (id : DeskId) (late : Bool) (k : KeptValue) (o : ℕ) (e : EntryValue) (l : KeptValue)
    → (late ≡ true → l ≡ k)
    → (late ≡ false → MovesOn id.site k.desk o e l.desk × (l ≡ counted_on id k e l.desk)) → LeavesLock id late k o e l
leaves_lock id true k o e l gone moves = gone refl
leaves_lock id false k o e l gone moves = moves refl

module _ {G A : Type 0} where
  -- what is promised of the entry in hand
  abbrev WithHand : ApplierValue G A → (EntryValue → Type 0) → Type 0
  WithHand a F = (e : EntryValue) → a.hand ≡ Some e → F e

  -- by what one entry under the lock promises
  pub handled : (id : DeskId) (a taken b : ApplierValue G A) (k l : KeptValue) → Fills a true taken → IsKept id k
      → WithHand taken (λ e. step_fault taken k.desk e ≡ None)
      → (is_late taken k.desk ≡ true → (b ≡ dropped taken) × (l ≡ k))
      → (is_late taken k.desk ≡ false → WithHand taken (λ e. b ≡ applied id taken e))
      → (is_late taken k.desk ≡ false
      → WithHand taken (λ e. MovesOn id.site k.desk taken.origin e l.desk × (l ≡ counted_on id k e l.desk)))
      → WithHand taken (λ e. StepsBy id k.desk (apply_change (is_late taken k.desk) taken.origin e) l.desk)
      → WithHand taken (λ e. RecordsBy id k (apply_change (is_late taken k.desk) taken.origin e) l)
      → IsCounted id b → HandlesNext id a k b l
  handled id a taken b k l fills kept fits gone done moves step records counted =
      let e : EntryValue = fills.1 in
      let held : taken.hand ≡ Some e = next_hand a.hand a taken e refl fills.2 in record {
        taken = taken;
        fills = fills;
        handles = record {
          held = held;
          kept = kept;
          fits = fits e held;
          hand = leaves_hand id (is_late taken k.desk) taken b e (λ late. (gone late).0) (λ late. done late e held);
          lock = leaves_lock id (is_late taken k.desk) k taken.origin e l (λ late. (gone late).1)
              (λ late. moves late e held);
          step = step e held;
          records = records e held;
          counted = counted;
        };
      }

  -- and by what it promises of an error
  pub kept_next : (id : DeskId) (a taken : ApplierValue G A) (k : KeptValue) (fault : StepError) → Fills a true taken
      → IsKept id k
      → WithHand taken (λ e. StepRefuses (step_fault taken k.desk e) (Err fault))
      → WithHand taken (λ e. numbers_in e.moves ≡ None → ¬ (fault ≡ OutOfMemory)) → KeepsNext id a k fault taken
  kept_next id a taken k fault fills kept refused memory =
      let held : taken.hand ≡ Some fills.1 = next_hand a.hand a taken fills.1 refl fills.2 in
      record {
        fills = fills;
        kept = kept;
        refused = refused fills.1 held;
        memory = λ is none. memory fills.1 held none is;
      }

  empty_hand : (id : DeskId) (late : Bool) (a b : ApplierValue G A) (e : EntryValue) → LeavesHand id late a e b
      → b.hand ≡ None
  empty_hand id true a b e is = ap (λ (x : ApplierValue G A). x.hand) is
  empty_hand id false a b e is = ap (λ (x : ApplierValue G A). x.hand) is

  -- after the last entry
  after_last : (id : DeskId) (a b : ApplierValue G A) (k l : KeptValue) (n : ℕ) → HandlesAll id a k (suc n) b l
      → (b.hand ≡ None) × IsCounted id b
  after_last id a b k l n h =
      let one : HandlesNext id h.0 h.1 b l = h.3 in
      (empty_hand id (is_late one.taken h.1.desk) one.taken b one.fills.1 one.handles.hand, one.handles.counted)

  -- after some
  pub after_some : (id : DeskId) (a b : ApplierValue G A) (k l : KeptValue) (n : ℕ) → 1 ≤ n → HandlesAll id a k n b l
      → (b.hand ≡ None) × IsCounted id b
  after_some id a b k l zero some h = absurd (omega (arith, some))
  after_some id a b k l (suc n) some h = after_last id a b k l n h

  -- ---- as steps

  step_of : (id : DeskId) (a b : ApplierValue G A) (k l : KeptValue) → HandlesNext id a k b l → Steps stays id a true b
  step_of id a b k l h = (
    h.fills.1,
    k,
    h.taken,
    record {
      unended = h.fills.0;
      taken = h.taken;
      next = h.fills.2;
      passed = refl;
      rest = refl;
      kept = h.handles.kept;
    },
    h.handles.fits,
    h.handles.hand,
  )

  advances : (id : DeskId) (a b : ApplierValue G A) (k l : KeptValue) (n : ℕ) → HandlesAll id a k n b l
      → Advances stays id a n b
  advances id a b k l zero h = h.0
  advances id a b k l (suc n) h = (h.0, advances id a h.0 k h.1 n h.2, step_of id h.0 b h.1 l h.3)

  fails_of : (id : DeskId) (a b : ApplierValue G A) (k : KeptValue) (fault : StepError) → KeepsNext id a k fault b
      → StepFails stays id a fault b
  fails_of id a b k fault h =
      step_failed stays id a b k h.fills.1 fault
      (record { unended = h.fills.0; taken = b; next = h.fills.2; passed = refl; rest = refl; kept = h.kept })
      h.refused h.memory

  -- ---- from before the first entry was taken

  -- with an entry in hand none is taken
  same_hand : (a b : ApplierValue G A) (e f : EntryValue) → a.hand ≡ Some e → HasNext a.hand a f b → (e ≡ f) × (b ≡ a)
  same_hand a b e f held next = subst (λ (h : Option EntryValue). HasNext h a f b) held next

  first : (id : DeskId) (old a b : ApplierValue G A) (k l : KeptValue) → Fills old true a → HandlesNext id a k b l
      → HandlesNext id old k b l
  first id old a b k l fills h =
      let e : EntryValue = fills.1 in
      let same = same_hand a h.taken e h.fills.1 (next_hand old.hand old a e refl fills.2) h.fills.2 in record {
        taken = a;
        fills = fills;
        handles = subst (λ (x : ApplierValue G A × EntryValue). Handles id x.0 k x.1 b l)
            (λ i. (same.1 i, sym same.0 i)) h.handles;
      }

  first_keeps : (id : DeskId) (old a b : ApplierValue G A) (k : KeptValue) (fault : StepError) → Fills old true a
      → KeepsNext id a k fault b → KeepsNext id old k fault b
  first_keeps id old a b k fault fills h =
      let e : EntryValue = fills.1 in
      let same = same_hand a b e h.fills.1 (next_hand old.hand old a e refl fills.2) h.fills.2 in record {
        fills = (fills.0, e, subst (λ (x : ApplierValue G A). HasNext old.hand old e x) (sym same.1) fills.2);
        kept = h.kept;
        refused = subst (λ (x : EntryValue). StepRefuses (step_fault b k.desk x) (Err fault)) (sym same.0) h.refused;
        memory = subst (λ (x : EntryValue). fault ≡ OutOfMemory → ¬ (numbers_in x.moves ≡ None)) (sym same.0) h.memory;
      }

  from_first : (id : DeskId) (old a b : ApplierValue G A) (k l : KeptValue) (n : ℕ) → Fills old true a
      → HandlesAll id a k (suc n) b l
      → HandlesAll id old k (suc n) b l
  from_first id old a b k l zero fills h =
      let one : HandlesNext id a k b l =
      subst (λ (x : ApplierValue G A × KeptValue). HandlesNext id x.0 x.1 b l) (λ i. (h.2.0 i, h.2.1 i)) h.3 in
      (old, k, (refl, refl), first id old a b k l fills one)
  from_first id old a b k l (suc n) fills h = (h.0, h.1, from_first id old a h.0 k h.1 n fills h.2, h.3)

  no_end : (a b : ApplierValue G A) (e : EntryValue) → a.hand ≡ Some e → a.ended ≡ false → HasEnded a.ended a b → ⊥
  no_end a b e held free ends = none_some a.hand e (subst (λ (x : Bool). HasEnded x a b) free ends).0 held

  same_ended : (h : Option EntryValue) (a b : ApplierValue G A) (e : EntryValue) → HasNext h a e b → b.ended ≡ a.ended
  same_ended None a b e is = ap (λ (x : ApplierValue G A). x.ended) is
  same_ended (Some f) a b e is = ap (λ (x : ApplierValue G A). x.ended) is.1

  pub ready_ok : (id : DeskId) (old a b : ApplierValue G A) (k l : KeptValue) (n : ℕ) (more : Bool) → Fills old true a
      → HandlesBatch id a k n more b l
      → StepsReady id old n more b
  ready_ok id old a b k l zero true fills h =
      let held : a.hand ≡ Some fills.1 = next_hand old.hand old a fills.1 refl fills.2 in
      absurd (none_some b.hand fills.1 h.1 (ap (λ (x : ApplierValue G A). x.hand) h.0.0 ∙ held))
  ready_ok id old a b k l (suc n) true fills h
      = (omega arith, advances id old b k l (suc n) (from_first id old a b k l n fills h.0))
  ready_ok id old a b k l zero false fills h =
      let held : a.hand ≡ Some fills.1 = next_hand old.hand old a fills.1 refl fills.2 in
      absurd (no_end a b fills.1 held (same_ended old.hand old a fills.1 fills.2
      ∙ fills.0) (subst (λ (x : ApplierValue G A). HasEnded x.ended x b) h.1.0 h.2))
  ready_ok id old a b k l (suc n) false fills h
      = (h.0, advances id old h.0 k l (suc n) (from_first id old a h.0 k l n fills h.1), h.2)

  ready_fails : (id : DeskId) (old a b : ApplierValue G A) (k l : KeptValue) (fault : StepError) → Fills old true a
      → (n : ℕ) (last : ApplierValue G A)
      → HandlesAll id a k n last l → KeepsNext id last l fault b → ReadyFails id old fault b
  ready_fails id old a b k l fault fills zero last h keeps =
      let now : KeepsNext id a l fault b = subst (λ (x : ApplierValue G A). KeepsNext id x l fault b) h.0 keeps in
      (0, old, refl, fails_of id old b l fault (first_keeps id old a b l fault fills now))
  ready_fails id old a b k l fault fills (suc n) last h keeps = (
    suc n,
    last,
    advances id old last k l (suc n) (from_first id old a last k l n fills h),
    fails_of id last b l fault keeps,
  )

  pub ready_err : (id : DeskId) (old a b : ApplierValue G A) (k l : KeptValue) (fault : StepError) → Fills old true a
      → BatchFails id a k fault b l
      → ReadyFails id old fault b
  ready_err id old a b k l fault fills h = ready_fails id old a b k l fault fills h.0 h.2 h.3 h.4

  -- by what the batch under the lock returned
  pub ready_oks : (id : DeskId) (old a b : ApplierValue G A) (k l : KeptValue) (r : Result (ℕ × Bool) StepError)
      → Fills old true a
      → IfOk r (λ x. HandlesBatch id a k x.0 x.1 b l) → IfOk r (λ x. StepsReady id old x.0 x.1 b)
  ready_oks id old a b k l (Ok x) fills h = ready_ok id old a b k l x.0 x.1 fills h
  ready_oks id old a b k l (Err e) fills h = tt

  pub ready_errs : (id : DeskId) (old a b : ApplierValue G A) (k l : KeptValue) (r : Result (ℕ × Bool) StepError)
      → Fills old true a
      → IfErr r (λ fault. BatchFails id a k fault b l) → IfErr r (λ fault. ReadyFails id old fault b)
  ready_errs id old a b k l (Ok x) fills h = tt
  ready_errs id old a b k l (Err e) fills h = ready_err id old a b k l e fills h

  -- ---- until End

  -- this number of steps, and then so many more
  more_steps : (id : DeskId) (a b c : ApplierValue G A) (n m : ℕ) → Advances stays id a n b → Advances stays id b m c
      → Advances stays id a (n + m) c
  more_steps id a b c n zero one two =
      let none : n ≡ n + 0 = omega arith in
      subst (λ (x : ApplierValue G A). Advances stays id a (n + 0) x) (sym two)
      (subst (λ (x : ℕ). Advances stays id a x b) none one)
  more_steps id a b c n (suc m) one two =
      let sum : suc (n + m) ≡ n + suc m = omega arith in
      subst (λ (x : ℕ). Advances stays id a x c) sum (two.0, more_steps id a b two.0 n m one two.1, two.2)

  pub runs_on : (id : DeskId) (a b c : ApplierValue G A) (n m : ℕ) → Advances stays id a n b → StepsReady id b m true c
      → (s : ℕ) × Advances stays id a s c
  runs_on id a b c n m one two = (n + m, more_steps id a b c n m one two.1)

  pub runs_out : (id : DeskId) (a b c : ApplierValue G A) (n m : ℕ) → Advances stays id a n b
      → StepsReady id b m false c → (s : ℕ) × Runs stays id a s c
  runs_out id a b c n m one two = (n + m, (two.0, more_steps id a b two.0 n m one two.1, two.2))

  pub run_fails : (id : DeskId) (a b c : ApplierValue G A) (n : ℕ) (fault : StepError) → Advances stays id a n b
      → ReadyFails id b fault c → ReadyFails id a fault c
  run_fails id a b c n fault one two = (n + two.0, two.1, more_steps id a b two.1 n two.0 one two.2, two.3)
