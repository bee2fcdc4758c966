-- The laws of the Bounded Counter, alone and as formed by the lists of the protocol.
use Rattle.std.specs.Prelude.{◌≡◌, ◌≢◌, ℕ, ◌+◌, ◌≤◌, ◌⊎◌, ◌==◌, List, [], ◌∷◌, if◌then◌else◌}
use Rattle.rights_types.specs.Chains.{moves_of}
use Rattle.rights_types.specs.Rights.{sum_sites, to, back}
use Rattle.rights_types.specs.declared.moves.Move.{Move}
use Rattle.rights_types.specs.declared.moves.Move.TheVariants.{Issue, Spend, Give}
use Rattle.rights_protocol.specs.Lists.{Lists, IsSiteOf, held_at, on_way}
use Rattle.rights_protocol.specs.Writing.{closing_moves}
use Rattle.rights_protocol.specs.Changes.{Change, Append, Offer, Take, CloseSite, Nothing, Step, Runs, Start}
use Rattle.rights_protocol.specs.Invariant.{Invariant}
use Rattle.rights_protocol.specs.Headline.{all_spent, all_issued}
use Rattle.rights_protocol.specs.BoundedCounter.{Counter, local_rights, value, SameCounter, TakesBack, Operate}
use Rattle.rights_protocol.specs.BoundedCounter.{Operation, CounterRun, EmptyCounter, IsSafe}
use Rattle.rights_protocol.specs.CounterOfLists.{counter_of, state_of, state_at}

-- ---- the counter alone

-- a site changes only its own row of R and its own entry of U
pub record OwnRow (i : ℕ) (old new : Counter) : Type 0 where
  pub R : (k j : ℕ) → k ≢ i → new.R k j ≡ old.R k j
  pub U : (k : ℕ) → k ≢ i → new.U k ≡ old.U k

abbrev pub OwnRowOnly : Type 0
OwnRowOnly = (n i : ℕ) (moves : List Move) (old new : Counter) → Operate n i moves old new → OwnRow i old new

-- whatever operations the sites make from the start, nothing is overdrawn
abbrev pub CounterIsSafe : Type 0
CounterIsSafe = (n : ℕ) (ops : List Operation) (start new : Counter) → EmptyCounter start → CounterRun n ops start new
    → IsSafe n new

-- ---- the lists as a counter

-- what the lists say about a site's rights
pub record RightsCount (w : Lists) (s : ℕ) : Type 0 where
  -- the rights that it holds are its local rights according to what it has
  pub holds : held_at w s ≡ local_rights w.count (state_at w s) s
  -- according to all logs it has these, and what is in transit to it
  pub has : local_rights w.count (state_of w) s ≡ held_at w s + sum_sites w.count (λ o. on_way w o s)
  -- so it never counts on more than it has
  pub no_more : local_rights w.count (state_at w s) s ≤ local_rights w.count (state_of w) s

pub record ListsCount (w : Lists) : Type 0 where
  pub safe : IsSafe w.count (state_of w)
  -- no site reclaimed more than it gave, so no difference in `counter_of` is cut off at 0
  pub taken_given : (s : ℕ) → IsSiteOf w.count s → (c : ℕ) → back c (moves_of (w.log s)) ≤ to c (moves_of (w.log s))
  pub rights : (s : ℕ) → IsSiteOf w.count s → RightsCount w s
  -- the counter's value is what was issued less what was spent
  pub counts : value w.count (state_of w) + all_spent w ≡ all_issued w

abbrev pub KeptCounts : Type 0
KeptCounts = (w : Lists) → Invariant w → ListsCount w

-- ---- the changes as operations

-- the moves that s writes; each is permitted, both according to all logs and according to what s has
pub record OperatesBoth (s : ℕ) (moves : List Move) (old new : Lists) : Type 0 where
  pub state : Operate old.count s moves (state_of old) (state_of new)
  pub view : Operate old.count s moves (state_at old s) (state_at new s)

abbrev pub ByOperations : Lists → Change → Lists → Type 0
ByOperations old (Append s moves) new = OperatesBoth s moves old new
ByOperations old (CloseSite s heir) new
    = OperatesBoth s (closing_moves old.count s (old.log s) (old.applied s) heir) old new
ByOperations old (Take s o) new = SameCounter (state_of old) (state_of new)
    ⊎ ((amount : ℕ) × TakesBack old.count s o amount (state_of old) (state_of new))
ByOperations old (Offer s o e) new = SameCounter (state_of old) (state_of new)
ByOperations old Nothing new = SameCounter (state_of old) (state_of new)

abbrev pub StepOperates : Type 0
StepOperates = (old : Lists) (change : Change) (new : Lists) → Invariant old → Step old change new
    → ByOperations old change new

-- so each run of the protocol is a run of the counter
abbrev pub RunOperates : Type 0
RunOperates = (n : ℕ) (start : Lists) (changes : List Change) (new : Lists) → Start n start → Runs start changes new
    → (ops : List Operation) × ((empty : Counter) × EmptyCounter empty × CounterRun n ops empty (state_of new))

-- ---- an example

-- 1 issues 10, spends 4 and gives 3 to 2
abbrev pub small_moves : ℕ → List Move
small_moves i = if i == 1 then Issue 10 ∷ (Spend 4 ∷ (Give 2 3 ∷ [])) else []

pub record SmallCounter : Type 0 where
  pub first : local_rights 2 (counter_of small_moves) 1 ≡ 3
  pub second : local_rights 2 (counter_of small_moves) 2 ≡ 3
  pub counts : value 2 (counter_of small_moves) ≡ 6
