use Rattle.desk_turns.specs.Applying.{HasApplied}
use Rattle.desk_turns.proofs.turns.Turns.apply_all.Given as goal

-- some batches led from the start to here
abbrev pub invariant-batches : goal.invariant-batches
invariant-batches g l = HasApplied g.D.DeskNames.id l.initial.self l.initial.applier l.self l.applier
