-- Each run of the protocol as a run of the counter.
use Rattle.std.proofs.Common.{◌≡◌, ℕ, ◌-◌, inl, inr, Bool, true, false, cond, eqb, List, [], ◌∷◌, ◌++◌, arith, refl, ap}
use Rattle.std.proofs.Common.{◌∙◌, subst}
use Rattle.std.specs.Prelude.{map}
use Rattle.rights_types.specs.Chains.{moves_of}
use Rattle.rights_types.specs.Rights.{issued, to, back}
use Rattle.rights_types.specs.declared.moves.Move.{Move}
use Rattle.rights_types.specs.declared.moves.Move.TheVariants.{TakeBack}
use Rattle.rights_types.proofs.Sums.{moves_of-nil, issued-nil, spent-nil, to-nil}
use Rattle.rights_protocol.specs.Lists.{Lists, IsSiteOf}
use Rattle.rights_protocol.specs.Writing.{closing_moves}
use Rattle.rights_protocol.specs.Changes.{Change, Step, Runs, Start}
use Rattle.rights_protocol.specs.Changes.Change.{Append, Offer, Take, CloseSite, Nothing}
use Rattle.rights_protocol.specs.Invariant.{Invariant}
use Rattle.rights_protocol.specs.BoundedCounter.{Counter, SameCounter, Operate, Operation, CounterRun, EmptyCounter}
use Rattle.rights_protocol.specs.CounterOfLists.{counter_of, state_of}
use Rattle.rights_protocol.proofs.Steps.{start_kept, step_keeps}
use Rattle.rights_protocol.proofs.CounterMoves.{same_counter}
use Rattle.rights_protocol.proofs.CounterSteps.{step_operates}

-- ---- runs, one after another

is_same : (old new : Counter) → SameCounter old new → new ≡ old
is_same old new same = λ t. record { R = λ i j. same.R i j t; U = λ i. same.U i t }

same_self : (c : Counter) → SameCounter c c
same_self c = record { R = λ i j. refl; U = λ i. refl }

then_run : (n : ℕ) (ops more : List Operation) (old mid new : Counter) → CounterRun n ops old mid
    → CounterRun n more mid new → CounterRun n (ops ++ more) old new
then_run n [] more old mid new run rest = subst (λ c. CounterRun n more c new) (is_same old mid run) rest
then_run n (op ∷ ops) more old mid new run rest
    = (run.0, (run.1.0, run.1.1, then_run n ops more run.1.0 mid new run.1.2 rest))

by_site : ℕ → Move → Operation
by_site s m = record { by = s; move = m }

moves_run : (n s : ℕ) (ms : List Move) (old new : Counter) → IsSiteOf n s → Operate n s ms old new
    → CounterRun n (map (by_site s) ms) old new
unfolding by_site
moves_run n s [] old new site run = run
moves_run n s (m ∷ ms) old new site run = (site, (run.0, run.1, moves_run n s ms run.0 new site run.2))

-- ---- the lists

abbrev RunsTo : Lists → Lists → Type 0
RunsTo old new = (ops : List Operation) × CounterRun old.count ops (state_of old) (state_of new)

step_runs : (old : Lists) (change : Change) (new : Lists) → Invariant old → Step old change new → RunsTo old new
step_runs old (Append s ms) new kept step = (
  map (by_site s) ms,
  moves_run old.count s ms (state_of old) (state_of new) step.site
      (step_operates old (Append s ms) new kept step).state,
)
step_runs old (Offer s o e) new kept step = ([], step_operates old (Offer s o e) new kept step)
step_runs old (Take s o) new kept step = elim (step_operates old (Take s o) new kept step) [
  | inl same ↦ ([], same)
  | inr back ↦ (
    map (by_site s) (TakeBack o back.0 ∷ []),
    moves_run old.count s (TakeBack o back.0 ∷ []) (state_of old) (state_of new) step.site (
      state_of new,
      back.1,
      same_self (state_of new),
    ),
  )
]
step_runs old (CloseSite s heir) new kept step =
    let ms : List Move = closing_moves old.count s (old.log s) (old.applied s) heir in (
      map (by_site s) ms,
      moves_run old.count s ms (state_of old) (state_of new) step.site
          (step_operates old (CloseSite s heir) new kept step).state,
    )
step_runs old Nothing new kept step = ([], step_operates old Nothing new kept step)

step_count : (old : Lists) (change : Change) (new : Lists) → Step old change new → new.count ≡ old.count
step_count old (Append s ms) new step = step.others.count
step_count old (Offer s o e) new step = elim step.comes [ inl r ↦ r.others.count | inr t ↦ t.all.count ]
step_count old (Take s o) new step = step.others.count
step_count old (CloseSite s heir) new step = step.others.count
step_count old Nothing new step = step.count

runs_to : (old : Lists) (changes : List Change) (new : Lists) → Invariant old → Runs old changes new → RunsTo old new
runs_to old [] new kept run
    = ([], same_counter (λ k. moves_of (old.log k)) (λ k. moves_of (new.log k)) (λ k. ap moves_of (run.sites k).log))
runs_to old (change ∷ changes) new kept run =
    let mid : Lists = run.0 in
    let first : RunsTo old mid = step_runs old change mid kept run.1 in
    let rest : RunsTo mid new = runs_to mid changes new (step_keeps old change mid kept run.1) run.2 in
    let on : CounterRun old.count rest.0 (state_of mid) (state_of new) =
    subst (λ n. CounterRun n rest.0 (state_of mid) (state_of new)) (step_count old change mid run.1) rest.1 in
    (first.0 ++ rest.0, then_run old.count first.0 rest.0 (state_of old) (state_of mid) (state_of new) first.1 on)

either : (b : Bool) (x y : ℕ) → x ≡ 0 → y ≡ 0 → cond b x y ≡ 0
either true x y h k = h
either false x y h k = k

empty_cell : (i j : ℕ) → (counter_of (λ o. [])).R i j ≡ 0
empty_cell i j = either (eqb j i) (issued []) (to j [] - back j []) issued-nil (omega (arith, to-nil j))

empty_start : (n : ℕ) (w : Lists) → Start n w → EmptyCounter (state_of w)
empty_start n w start =
    let none : (o : ℕ) → moves_of (w.log o) ≡ [] = λ o. ap moves_of (start.log o) ∙ moves_of-nil in
    let nothing : SameCounter (counter_of (λ o. [])) (state_of w)
    = same_counter (λ o. []) (λ o. moves_of (w.log o)) none in
    record { R = λ i j. nothing.R i j ∙ empty_cell i j; U = λ i. nothing.U i ∙ spent-nil }

pub run_operates : (n : ℕ) (start : Lists) (changes : List Change) (new : Lists) → Start n start
    → Runs start changes new
    → (ops : List Operation) × ((empty : Counter) × EmptyCounter empty × CounterRun n ops empty (state_of new))
run_operates n start changes new at run =
    let all : RunsTo start new = runs_to start changes new (start_kept n start at) run in (
      all.0,
      (
        state_of start,
        empty_start n start at,
        subst (λ k. CounterRun k all.0 (state_of start) (state_of new)) at.count all.1,
      ),
    )
