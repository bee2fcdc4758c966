-- The ranges of numbers.
use Rattle.std.specs.Prelude.{ℕ, ◌≤◌, List, length}
use Rattle.std.specs.List.{All}
use Rattle.rights_types.specs.declared.limits.TheConstants.{MIN_SITES, MAX_SITES, MAX_AMOUNT, MAX_ASK, MAX_TOTAL}
use Rattle.rights_types.specs.declared.limits.TheConstants.{MAX_NUMBER}

abbrev pub IsSite : ℕ → Type 0
IsSite n = (1 ≤ n) × (n ≤ MAX_SITES)

abbrev pub IsAmount : ℕ → Type 0
IsAmount n = (1 ≤ n) × (n ≤ MAX_AMOUNT)

abbrev pub IsAskNumber : ℕ → Type 0
IsAskNumber n = (1 ≤ n) × (n ≤ MAX_ASK)

abbrev pub IsTotal : ℕ → Type 0
IsTotal n = (1 ≤ n) × (n ≤ MAX_TOTAL)

-- a number of a log; 0 is the one before its first move
abbrev pub IsNumber : ℕ → Type 0
IsNumber n = n ≤ MAX_NUMBER

-- a number of a log for each site of a system
pub record IsFrontier (numbers : List ℕ) : Type 0 where
  pub some : MIN_SITES ≤ length numbers
  pub few : length numbers ≤ MAX_SITES
  pub each : All IsNumber numbers
