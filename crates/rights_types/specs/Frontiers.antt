-- A frontier's numbers, and how they fill sixteen slots.
use Rattle.std.specs.Prelude.{◌≡◌, ℕ, ◌-◌, ◌<◌, ◌≤◌, ◌⊎◌, List, ◌++◌, length, drop, replicate, Result, Ok, Err}
use Rattle.std.specs.List.{Any}
use Rattle.rights_types.specs.Ranges.{IsFrontier}
use Rattle.rights_types.specs.declared.limits.TheConstants.{MIN_SITES, MAX_SITES, MAX_NUMBER}
use Rattle.rights_types.specs.declared.fault.TypeError.{TypeError}
use Rattle.rights_types.specs.declared.fault.TypeError.TheVariants.{BadNumber, BadCount}

-- the slots after the numbers are 0
pub record IsPadded (count : ℕ) (places : List ℕ) : Type 0 where
  pub sixteen : length places ≡ 16
  pub within : count ≤ 16
  pub zeros : drop count places ≡ replicate (16 - count) 0

abbrev pub padded : List ℕ → List ℕ
padded numbers = numbers ++ replicate (16 - length numbers) 0

-- the result of constructing a frontier of these numbers: the count is checked before the numbers
abbrev pub FrontierMade : List ℕ → Result (List ℕ) TypeError → Type 0
FrontierMade numbers (Ok made) = IsFrontier numbers × (made ≡ numbers)
FrontierMade numbers (Err BadCount) = (length numbers < MIN_SITES) ⊎ (MAX_SITES < length numbers)
FrontierMade numbers (Err BadNumber) = (MIN_SITES ≤ length numbers) × (length numbers ≤ MAX_SITES)
    × Any (λ n. MAX_NUMBER < n) numbers
FrontierMade numbers (Err _) = ⊥
