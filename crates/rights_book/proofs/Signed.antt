-- Signed differences in 128 bits.
use Rattle.std.proofs.Common.{◌≡◌, ℕ, ◌<◌, ◌^◌, ◌≤◌, pos, neg_ℤ, ◌-ℤ◌, ◌≤ℤ◌, arith}
use Rattle.std.proofs.lemmas.Int.{ints}
use mir.Syntax.{w128}
use mir.Val.{to_z, of_z}

pub small_difference : (x y : ℕ) → x < 2 ^ 126 → y < 2 ^ 126
    → to_z w128 (of_z w128 (to_z w128 x -ℤ to_z w128 y)) ≡ pos x -ℤ pos y
small_difference x y h k = omega (arith, ints)

pub difference_range : (x y most least : ℕ) → x ≤ most → y ≤ least → (neg_ℤ (pos least) ≤ℤ (pos x -ℤ pos y))
    × ((pos x -ℤ pos y) ≤ℤ pos most)
difference_range x y most least h k = (omega (arith, ints), omega (arith, ints))
