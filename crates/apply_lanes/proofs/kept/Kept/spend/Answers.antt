use Rattle.apply_lanes.proofs.KeptLaws.{any_handed}
use Rattle.apply_lanes.specs.Steps.{spend_change}
use Rattle.std.proofs.Common.{subst, rules}
use Rattle.site_core.specs.Calls.{DeskSpends, SpendKeeps}
use Rattle.apply_lanes.proofs.KeptLaws.{raised_none, issued-spend, spent-spend}
use Rattle.apply_lanes.proofs.RecordLaws.{kept_written, seen_adds, adds_spend}
use Rattle.apply_lanes.proofs.StepLaws.{seen, steps_spend}
use Rattle.apply_lanes.proofs.kept.Kept.spend.Goals as goal

pub invariant_of-self-in-Spent : goal.invariant_of-self-in-Spent
invariant_of-self-in-Spent g c =
    let spends = subst (λ s. DeskSpends c.self.inside.desk c.args.amount c.args.deadline s c.spend.new.self)
    c.in-Spent.is c.in_ok-spending.ensures.ok in
    let keeps = subst (λ s. SpendKeeps c.self.inside.desk c.args.amount s c.spend.new.self) c.in-Spent.is
    c.in_ok-spending.ensures.keeps in
    any_handed c.note.new.self.handed c.note.new.self.lines (kept_written _ _ c.spend.new.self _ _ _ _ _ _ c.self.invariant spends.1.entry keeps (issued-spend _)
    (spent-spend _) (raised_none _) c.add.ensures.sum c.note.ensures.items)

pub invariant_of-seat : goal.invariant_of-seat
invariant_of-seat g c = search rules

pub returns-in-Spent-clause-ok : goal.returns-in-Spent-clause-ok
returns-in-Spent-clause-ok g c = search rules

pub returns-in-Spent-clause-counters : goal.returns-in-Spent-clause-counters
returns-in-Spent-clause-counters g c = search rules

pub returns-in-Spent-clause-told : goal.returns-in-Spent-clause-told
returns-in-Spent-clause-told g c = search rules

pub invariant_of-self-in_default : goal.invariant_of-self-in_default
invariant_of-self-in_default g c = search rules

pub returns-in_default-clause-ok : goal.returns-in_default-clause-ok
returns-in_default-clause-ok g c = search rules

pub returns-in_default-clause-counters : goal.returns-in_default-clause-counters
returns-in_default-clause-counters g c = search rules

pub returns-in_default-clause-told : goal.returns-in_default-clause-told
returns-in_default-clause-told g c = search rules

pub returns-in-Spent-clause-step : goal.returns-in-Spent-clause-step
returns-in-Spent-clause-step g c =
    seen g.D.DeskNames.id _ _ (spend_change c.args.amount c.in_ok-spending.spending) c.spend.new.self c.self.view_is
    (steps_spend _ _ _ _ c.args.deadline _ c.self.invariant c.in_ok-spending.ensures.ok c.in_ok-spending.ensures.keeps)

pub returns-in_default-clause-step : goal.returns-in_default-clause-step
returns-in_default-clause-step g c =
    seen g.D.DeskNames.id _ _ (spend_change c.args.amount c.in_ok-spending.spending) c.spend.new.self c.self.view_is
    (steps_spend _ _ _ _ c.args.deadline _ c.self.invariant c.in_ok-spending.ensures.ok c.in_ok-spending.ensures.keeps)

pub returns-in-Spent-clause-records : goal.returns-in-Spent-clause-records
returns-in-Spent-clause-records g c =
    seen_adds g.D.DeskNames.id _ _ (spend_change c.args.amount c.in_ok-spending.spending) c.note.new.self.items
    c.self.view_is
    (adds_spend _ _ c.spend.new.self _ c.args.deadline c.in_ok-spending.spending _ c.self.invariant
    c.in_ok-spending.ensures.ok (search rules))

pub returns-in_default-clause-records : goal.returns-in_default-clause-records
returns-in_default-clause-records g c =
    seen_adds g.D.DeskNames.id _ _ (spend_change c.args.amount c.in_ok-spending.spending) _
    c.self.view_is
    (adds_spend _ _ c.spend.new.self _ c.args.deadline c.in_ok-spending.spending _ c.self.invariant
    c.in_ok-spending.ensures.ok (search rules))
