-- A split counter, as plain data.
use Rattle.std.specs.Prelude.{ℕ}

-- its sum; how many shards it has, not given out yet or returned; and what the returned shards added
pub record SplitCounterValue : Type 0 where
  pub sum : ℕ
  pub left : ℕ
  pub returned : ℕ
