-- What of a site's log was sent to no peer.
use Rattle.std.specs.Prelude.{ℕ, suc, max, nat_le, List, Option, Some, None, if◌then◌else◌}
use Rattle.std.specs.List.{fold}

-- the number up to which the log was sent to some peer, by the numbers up to which it was sent to each
abbrev pub most_sent : List ℕ → ℕ
most_sent sent = fold max 0 sent

-- the numbers behind that, from the first to the last one of the log; None where there are none
abbrev pub numbers_unsent : ℕ → List ℕ → Option (ℕ × ℕ)
numbers_unsent last sent = if nat_le last (most_sent sent) then None else Some (suc (most_sent sent), last)
