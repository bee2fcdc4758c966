-- Which peers are silent.
use Rattle.std.specs.Prelude.{ℕ, Bool, false, nat_le, Option, Some, None}

-- nothing was read of a peer for so many milliseconds, which makes it silent after this time; never if there is no time
abbrev pub is_silent : Option ℕ → ℕ → Bool
is_silent None unheard = false
is_silent (Some after) unheard = nat_le after unheard
