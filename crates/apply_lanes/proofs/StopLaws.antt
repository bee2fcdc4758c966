-- What is back when a desk stops.
use Rattle.std.proofs.Common.{◌≡◌, ℕ, ◌-◌, ◌≤◌, ◌==◌, Bool, true, false, not, cond, Some, None, refl, arith}
use Rattle.std.proofs.lemmas.Bool.{eqb-true}
use Rattle.apply_lanes.specs.Kepts.{KeptValue, HasShards}
use Rattle.apply_lanes.specs.Stops.{missing_of}
use Rattle.apply_lanes.specs.declared.kept.Missing.TheVariants.{Seat, Applier}

by_tests : (b c : Bool) → cond (not b) (Some Seat) (cond (not c) (Some Applier) None) ≡ None → (b ≡ true) × (c ≡ true)
by_tests false c h = absurd cc
by_tests true false h = absurd cc
by_tests true true h = (refl, refl)

-- if nothing is missing, there are as many seats and appliers as were given out
pub none_missing : (k : KeptValue) (seats appliers : ℕ) → missing_of k seats appliers ≡ None
    → (seats ≡ 65 - k.issued.left) × (appliers ≡ 16 - k.number.left)
none_missing k seats appliers h =
    let back = by_tests (seats == 65 - k.issued.left) (appliers == 16 - k.number.left) h in
    (eqb-true seats (65 - k.issued.left) back.0, eqb-true appliers (16 - k.number.left) back.1)

one_at_most : (given : Bool) → cond given 0 1 ≤ 1
one_at_most true = omega arith
one_at_most false = omega arith

-- no more seats are left than there are, the clock's included
pub left_bound : (k : KeptValue) → HasShards k → k.issued.left ≤ 65
left_bound k p = omega (arith, p.seats, one_at_most k.clock_given)
