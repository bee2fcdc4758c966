-- The lists of a system of sites as a Bounded Counter. The paper's replicas send their states, and merge them by the
-- maximum of each entry. Here a reclaim lowers an entry of R, so a site has a prefix of each log instead.
use Rattle.std.specs.Prelude.{ℕ, ◌-◌, ◌==◌, List, if◌then◌else◌}
use Rattle.rights_types.specs.Entries.{EntryValue}
use Rattle.rights_types.specs.Chains.{moves_of}
use Rattle.rights_types.specs.Rights.{issued, spent, to, back}
use Rattle.rights_types.specs.declared.moves.Move.{Move}
use Rattle.rights_protocol.specs.Lists.{Lists}
use Rattle.rights_protocol.specs.BoundedCounter.{Counter}

-- the counter after these moves of each site: it created what it issued, transferred what it gave less what it
-- reclaimed, and consumed what it spent
abbrev pub counter_of : (ℕ → List Move) → Counter
counter_of moves = record {
  R = λ i j. if j == i then issued (moves i) else to j (moves i) - back j (moves i);
  U = λ i. spent (moves i);
}

-- according to all logs
abbrev pub state_of : Lists → Counter
state_of w = counter_of (λ o. moves_of (w.log o))

-- what s has of the log of o: all of its own log, and of another one what it applied
abbrev pub seen : Lists → ℕ → ℕ → List EntryValue
seen w s o = if o == s then w.log s else w.applied s o

-- according to what s has
abbrev pub state_at : Lists → ℕ → Counter
state_at w s = counter_of (λ o. moves_of (seen w s o))
