-- Positions in a list of entries that is in order.
use Rattle.std.specs.Prelude.{ℕ, ◌<◌, ◌≤◌, List, length, take, drop}
use Rattle.std.specs.List.{All}
use Rattle.rights_types.specs.Entries.{EntryValue}

-- the previous numbers of the first k entries are below n, and those of the others are above n
pub record IsPlace (n : ℕ) (es : List EntryValue) (k : ℕ) : Type 0 where
  pub within : k ≤ length es
  pub earlier : All (λ e. e.prev < n) (take k es)
  pub later : All (λ e. n < e.prev) (drop k es)
