use Rattle.apply_lanes.proofs.KeptLaws.{any_handed}
use Rattle.rights_protocol.specs.Schedules.LocalChange.{Retire}
use Rattle.apply_lanes.proofs.RecordLaws.{kept_closed, seen_adds, adds_close}
use Rattle.apply_lanes.proofs.StepLaws.{seen, steps_close}
use Rattle.apply_lanes.proofs.kept.Kept.close.Goals as goal

pub invariant_of-self-2 : goal.invariant_of-self-2
invariant_of-self-2 g c =
    any_handed c.note.new.self.handed c.note.new.self.lines (kept_closed _ _ c.close.new.self c.args.heir _ c.self.invariant c.in_ok-number.ensures.ok.entry
    c.in_ok-number.ensures.keeps c.note.ensures.items)

pub returns-clause-step : goal.returns-clause-step
returns-clause-step g c =
    let id = g.D.DeskNames.id in
    seen id _ _ (Retire c.args.heir) c.close.new.self c.self.view_is
    (steps_close id _ c.close.new.self c.args.heir c.self.invariant c.in_ok-number.ensures.ok.entry
    c.in_ok-number.ensures.keeps)

pub returns-clause-records : goal.returns-clause-records
returns-clause-records g c =
    let id = g.D.DeskNames.id in
    seen_adds id _ _ (Retire c.args.heir) c.note.new.self.items c.self.view_is
    (adds_close id _ c.close.new.self c.args.heir _ c.self.invariant c.in_ok-number.ensures.ok.entry
    c.in_ok-number.ensures.keeps c.note.ensures.items)
