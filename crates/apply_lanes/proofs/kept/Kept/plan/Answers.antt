use Rattle.transfer_manager.specs.SiteSets.{has_site}
use Rattle.apply_lanes.proofs.AskLaws.{plan_adds}
use Rattle.apply_lanes.proofs.KeptLaws.{any_handed}
use Rattle.rights_protocol.specs.Schedules.LocalChange.{Other}
use Rattle.std.proofs.Common.{false, ap}
use Rattle.site_core.specs.Desks.{DeskValue}
use Rattle.apply_lanes.proofs.StepLaws.{seen, steps_none}
use Rattle.apply_lanes.proofs.RecordLaws.{kept_plan, planned_is}
use Rattle.apply_lanes.proofs.kept.Kept.plan.Goals as goal

pub returns-clause-step : goal.returns-clause-step
returns-clause-step g c =
    seen g.D.DeskNames.id _ _ Other c.plan-count.new.self c.self.view_is
    (steps_none g.D.DeskNames.id c.self.inside.desk c.plan-count.new.self
    (ap (λ (d : DeskValue). d.ledger) c.plan-count.ensures.rest))

pub invariant_of-self : goal.invariant_of-self
invariant_of-self g c =
    any_handed c.note.new.self.handed c.note.new.self.lines (kept_plan _ _ c.plan-count.new.self (λ j. false) _ c.self.invariant
    (ap (λ (d : DeskValue). d.ledger) c.plan-count.ensures.rest) (plan_adds _ c.plan-count.new.self (λ j. false) _ (has_site c.asked_sites-before.result) _ _ c.plan-count.ensures c.asked_sites-before.ensures
    c.note.ensures.items))

pub returns-clause-rest : goal.returns-clause-rest
returns-clause-rest g c =
    planned_is _ c.args.self.now c.plan-count.new.self (λ j. false) c.note.new.self.items c.note.new.self.handed c.note.new.self.lines c.self.view_is
    (plan_adds _ c.plan-count.new.self (λ j. false) _ (has_site c.asked_sites-before.result) _ _ c.plan-count.ensures c.asked_sites-before.ensures
    c.note.ensures.items) c.note.ensures.handed c.note.ensures.lines
