-- Which connection of a client ends for a new one.
use Rattle.std.specs.Prelude.{ℕ, ◌-◌, ◌==◌, ◌&&◌, ◌||◌, nat_lt, Bool, true, false, Option, Some, None}
use Rattle.site_sockets.specs.declared.activity.Phase.{Phase}
use Rattle.site_sockets.specs.declared.activity.Phase.TheVariants.{Idle, Receiving, Working, Sending, Ended}

-- idle connections end first, then those whose request or response is not through; no other ends
abbrev pub rank : Phase → Option ℕ
rank (Idle since) = Some 0
rank (Receiving since) = Some 1
rank Working = None
rank (Sending since) = Some 1
rank Ended = None

-- for how long a connection has waited
abbrev pub age : Phase → ℕ → ℕ
age (Idle since) now = now - since
age (Receiving since) now = now - since
age Working now = 0
age (Sending since) now = now - since
age Ended now = 0

-- by the ranks of two connections and how long they have waited, whether the first one ends rather than the second
abbrev pub goes_by : Option ℕ → Option ℕ → ℕ → ℕ → Bool
goes_by (Some one) (Some two) age-one age-two = nat_lt one two || ((one == two) && nat_lt age-two age-one)
goes_by (Some one) None age-one age-two = true
goes_by None two age-one age-two = false

-- one connection ends rather than the other
abbrev pub goes_before : Phase → Phase → ℕ → Bool
goes_before one two now = goes_by (rank one) (rank two) (age one now) (age two now)
