-- The Bounded Counter, as its authors define it: V. Balegas and others, "Extending Eventually Consistent Cloud
-- Databases for Enforcing Numeric Invariants", SRDS 2015. Here its bound is 0 and its n replicas are the sites,
-- numbered from 1.
use Rattle.std.specs.Prelude.{◌≡◌, ◌≢◌, ℕ, ◌+◌, ◌-◌, ◌≤◌, ◌⊎◌, ◌==◌, List, [], ◌∷◌, if◌then◌else◌}
use Rattle.rights_types.specs.Rights.{sum_sites}
use Rattle.rights_types.specs.declared.moves.Move.{Move}
use Rattle.rights_types.specs.declared.moves.Move.TheVariants.{Issue, Spend, Grant, Give, Close, CloseAt, TakeBack}
use Rattle.rights_protocol.specs.Lists.{IsSiteOf}

-- ---- the state

-- R i i: the rights that i created. R i j: those that i transferred to j. U i: those that i consumed.
pub record Counter : Type 0 where
  pub R : ℕ → ℕ → ℕ
  pub U : ℕ → ℕ

-- the sum of f over the sites 1 to n except i
abbrev pub sum_others : ℕ → ℕ → (ℕ → ℕ) → ℕ
sum_others n i f = sum_sites n (λ j. if j == i then 0 else f j)

abbrev pub incoming : ℕ → Counter → ℕ → ℕ
incoming n c i = sum_others n i (λ j. c.R j i)

abbrev pub outgoing : ℕ → Counter → ℕ → ℕ
outgoing n c i = sum_others n i (λ j. c.R i j)

abbrev pub local_rights : ℕ → Counter → ℕ → ℕ
local_rights n c i = (c.R i i + incoming n c i) - (outgoing n c i + c.U i)

abbrev pub all_created : ℕ → Counter → ℕ
all_created n c = sum_sites n (λ i. c.R i i)

abbrev pub all_consumed : ℕ → Counter → ℕ
all_consumed n c = sum_sites n (λ i. c.U i)

-- the value of the counter
abbrev pub value : ℕ → Counter → ℕ
value n c = all_created n c - all_consumed n c

-- ---- what may happen to it

-- of R, only the entry (a, b) changes
pub record OnlyEntry (a b : ℕ) (old new : Counter) : Type 0 where
  pub R : (i j : ℕ) → (i ≢ a) ⊎ (j ≢ b) → new.R i j ≡ old.R i j
  pub U : (i : ℕ) → new.U i ≡ old.U i

-- of U, only the entry a changes
pub record OnlyUse (a : ℕ) (old new : Counter) : Type 0 where
  pub R : (i j : ℕ) → new.R i j ≡ old.R i j
  pub U : (i : ℕ) → i ≢ a → new.U i ≡ old.U i

pub record SameCounter (old new : Counter) : Type 0 where
  pub R : (i j : ℕ) → new.R i j ≡ old.R i j
  pub U : (i : ℕ) → new.U i ≡ old.U i

-- i creates this amount of rights
pub record Increments (i amount : ℕ) (old new : Counter) : Type 0 where
  pub created : new.R i i ≡ old.R i i + amount
  pub others : OnlyEntry i i old new

-- i consumes this amount, at most what it has
pub record Decrements (n i amount : ℕ) (old new : Counter) : Type 0 where
  pub guard : amount ≤ local_rights n old i
  pub consumed : new.U i ≡ old.U i + amount
  pub others : OnlyUse i old new

-- one site transfers this amount to another, at most what it has
pub record Transfers (n from to amount : ℕ) (old new : Counter) : Type 0 where
  pub site : IsSiteOf n to
  pub differ : to ≢ from
  pub guard : amount ≤ local_rights n old from
  pub transferred : new.R from to ≡ old.R from to + amount
  pub others : OnlyEntry from to old new

-- The one operation that the paper does not have: i reclaims this amount from j, at most what i transferred to it and
-- at most what j has. (In the protocol i does so once j has closed, and only with what was still in transit to j.)
pub record TakesBack (n i j amount : ℕ) (old new : Counter) : Type 0 where
  pub site : IsSiteOf n j
  pub differ : j ≢ i
  pub given : amount ≤ old.R i j
  pub guard : amount ≤ local_rights n old j
  pub taken : new.R i j + amount ≡ old.R i j
  pub others : OnlyEntry i j old new

-- a move of i as an operation; a closing move is not one
abbrev pub Operates : ℕ → ℕ → Move → Counter → Counter → Type 0
Operates n i (Issue amount) old new = Increments i amount old new
Operates n i (Spend amount) old new = Decrements n i amount old new
Operates n i (Grant j amount ask) old new = Transfers n i j amount old new
Operates n i (Give j amount) old new = Transfers n i j amount old new
Operates n i Close old new = SameCounter old new
Operates n i (CloseAt numbers) old new = SameCounter old new
Operates n i (TakeBack j amount) old new = TakesBack n i j amount old new

-- these moves of i, one after another
abbrev pub Operate : ℕ → ℕ → List Move → Counter → Counter → Type 0
Operate n i [] old new = SameCounter old new
Operate n i (m ∷ ms) old new = (mid : Counter) × Operates n i m old mid × Operate n i ms mid new

-- ---- any run

pub record Operation : Type 0 where
  pub by : ℕ
  pub move : Move

-- these operations, one after another, each by one of n sites
abbrev pub CounterRun : ℕ → List Operation → Counter → Counter → Type 0
CounterRun n [] old new = SameCounter old new
CounterRun n (op ∷ ops) old new
    = IsSiteOf n op.by × ((mid : Counter) × Operates n op.by op.move old mid × CounterRun n ops mid new)

pub record EmptyCounter (c : Counter) : Type 0 where
  pub R : (i j : ℕ) → c.R i j ≡ 0
  pub U : (i : ℕ) → c.U i ≡ 0

-- neither local rights nor the value are negative, and the value is the sum of all local rights
pub record IsSafe (n : ℕ) (c : Counter) : Type 0 where
  pub rights : (i : ℕ) → IsSiteOf n i → outgoing n c i + c.U i ≤ c.R i i + incoming n c i
  pub not_negative : all_consumed n c ≤ all_created n c
  pub all_rights : sum_sites n (local_rights n c) ≡ value n c
