use Rattle.std.proofs.Common.{arith, sym, subst}
use Rattle.std.proofs.lemmas.List.{take_more}
use Rattle.world_core.specs.Sound.{IsWorld}
use Rattle.world_core.proofs.SendKeeps.{ended_world}
use Rattle.world_core.proofs.WorldLaws.{runs_from, runs-push, headline_of}
use Rattle.world_core.proofs.world.World.run.Goals as goal

pub invariant_of-self : goal.invariant_of-self
invariant_of-self g c = subst IsWorld (sym c.end.ensures) (ended_world c.self.inside.system c.self.invariant).is

pub returns-in_default-clause-headline : goal.returns-in_default-clause-headline
returns-in_default-clause-headline g c =
    rw c.end.ensures (headline_of _ (ended_world c.self.inside.system c.self.invariant).is)

pub happen-outcome-requires : goal.happen-outcome-requires
happen-outcome-requires g c =
    record { kept = (runs_from _ _ _ _ _ c.self.view_is c.self.invariant c.loop-event.invariant.2).is }

pub loop-event-preserved : goal.loop-event-preserved
loop-event-preserved g c =
    let ran = c.loop-event.invariant.2 in
    let longer = runs-push _ _ _ _ _ _ c.happen-outcome.result ran c.happen-outcome.ensures in
    let more = take_more c.args.events.now c.loop-event.event-index c.event-item.result c.loop-event-test.true in (
      omega (arith, c.push_reserved.ensures.len, c.loop-event.invariant.0),
      omega (arith, c.push_reserved.ensures.capacity, c.loop-event.invariant.1),
      rw (more, ← c.event-item.is, c.push_reserved.ensures.items) longer,
    )

pub invariant_of-self-in-loop-event : goal.invariant_of-self-in-loop-event
invariant_of-self-in-loop-event g c =
    (runs_from _ _ _ _ _ c.self.view_is c.self.invariant c.loop-event.invariant.2).is

pub returns-clause-headline : goal.returns-clause-headline
returns-clause-headline g c =
    headline_of _ (runs_from _ _ _ _ _ c.self.view_is c.self.invariant c.loop-event.invariant.2).is

pub returns-clause-refines : goal.returns-clause-refines
returns-clause-refines g c = (runs_from _ _ _ _ _ c.self.view_is c.self.invariant c.loop-event.invariant.2).refines
