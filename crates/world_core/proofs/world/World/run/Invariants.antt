use Rattle.std.proofs.Common.{◌≡◌, ◌≤◌, length, take, vec_len}
use Rattle.std.specs.Vec.{vec_capacity}
use Rattle.world_core.specs.Step.{Runs}
use Rattle.world_core.proofs.world.World.run.Given as goal

abbrev pub invariant-loop-event : goal.invariant-loop-event
invariant-loop-event g l =
    (vec_len l.outcomes ≡ l.event-index) × (length l.events ≤ vec_capacity l.outcomes)
    × Runs l.fn.self (take l.event-index l.events) l.outcomes.items l.self-inside.system
