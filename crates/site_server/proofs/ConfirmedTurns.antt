-- The turns of a client, one after another.
use Rattle.std.proofs.Common.{List, [], ◌∷◌, ◌++◌, subst}
use Rattle.apply_lanes.specs.Kepts.{SeatValue}
use Rattle.site_node.specs.Confirmed.{Turn, HasTurns}

pub both : (was half now : SeatValue) (first rest : List Turn) → HasTurns was first half → HasTurns half rest now
    → HasTurns was (first ++ rest) now
both was half now [] rest h k = subst (λ (s : SeatValue). HasTurns s rest now) h k
both was half now (turn ∷ first) rest h k = (h.0, h.1, both h.0 half now first rest h.2 k)
