use Rattle.std.proofs.Common.{sym, ap, subst, ◌∙◌}
use Rattle.world_core.specs.Worlds.{ended}
use Rattle.world_core.specs.Step.{Step}
use Rattle.world_core.proofs.EventPlaces.{place_known}
use Rattle.world_core.proofs.Happenings.{step_refused, step_happens, step_ends}
use Rattle.world_core.proofs.system.System.happen.Goals as goal

pub attempt-outcome-requires : goal.attempt-outcome-requires
attempt-outcome-requires g c = record {
  kept = c.requires.kept;
  place = place_known c.args.self.now c.args.event.now (sym c.fault_of.ensures ∙ c.in_default.is);
}

pub returns-in-Some : goal.returns-in-Some
returns-in-Some g c =
    step_refused c.args.self.now c.args.event.now c.in-Some.fault (sym c.fault_of.ensures ∙ c.in-Some.is)

pub returns-then-wants_memory : goal.returns-then-wants_memory
returns-then-wants_memory g c =
    subst (λ v. Step c.args.self.now c.args.event.now c.attempt-outcome.result v) (ap ended (sym c.self.view_is))
    (step_ends c.args.self.now c.attempt-outcome.new.self c.args.event.now c.attempt-outcome.result
    (sym c.fault_of.ensures ∙ c.in_default.is) (sym c.if-wants_memory.ensures) c.attempt-outcome.ensures)

pub returns-else-wants_memory : goal.returns-else-wants_memory
returns-else-wants_memory g c =
    step_happens c.args.self.now c.attempt-outcome.new.self c.args.event.now c.attempt-outcome.result
    (sym c.fault_of.ensures ∙ c.in_default.is) (sym c.if-wants_memory.ensures) c.attempt-outcome.ensures
