use Rattle.std.proofs.Common.{◌≡◌, length}
use Rattle.desk_turns.proofs.seats.Seats.new.Given as goal

-- as many seats as rounds
abbrev pub invariant-seats : goal.invariant-seats
invariant-seats g l = length l.seats.items ≡ l.counter
