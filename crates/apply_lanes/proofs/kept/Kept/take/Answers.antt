use Rattle.apply_lanes.proofs.KeptLaws.{any_handed}
use Rattle.std.proofs.Common.{List, [], ◌∷◌}
use Rattle.rights_types.specs.declared.moves.Move.{Move}
use Rattle.rights_types.specs.declared.moves.Move.TheVariants.{Spend}
use Rattle.rights_protocol.specs.Schedules.LocalChange.{Write}
use Rattle.std.proofs.Common.{rules}
use Rattle.apply_lanes.proofs.KeptLaws.{raised_none, issued-spend, spent-spend}
use Rattle.apply_lanes.proofs.RecordLaws.{kept_written, seen_adds, adds_write}
use Rattle.apply_lanes.proofs.StepLaws.{seen, steps_write}
use Rattle.apply_lanes.proofs.kept.Kept.take.Goals as goal

pub invariant_of-self-2 : goal.invariant_of-self-2
invariant_of-self-2 g c =
    any_handed c.note.new.self.handed c.note.new.self.lines (kept_written _ _ c.take.new.self _ _ _ _ _ _ c.self.invariant c.in_ok-number.ensures.ok.entry
    c.in_ok-number.ensures.keeps (issued-spend _) (spent-spend _) (raised_none _) c.add.ensures.sum c.note.ensures.items)

pub invariant_of-seat : goal.invariant_of-seat
invariant_of-seat g c = search rules

pub returns-clause-counters : goal.returns-clause-counters
returns-clause-counters g c = search rules

pub returns-clause-told : goal.returns-clause-told
returns-clause-told g c = search rules

pub returns-clause-step : goal.returns-clause-step
returns-clause-step g c =
    let id = g.D.DeskNames.id in
    let moves : List Move = Spend c.args.rights ∷ [] in
    seen id _ _ (Write moves) c.take.new.self c.self.view_is
    (steps_write id _ c.take.new.self moves c.self.invariant c.in_ok-number.ensures.ok.entry
    c.in_ok-number.ensures.keeps)

pub returns-clause-records : goal.returns-clause-records
returns-clause-records g c =
    let id = g.D.DeskNames.id in
    let moves : List Move = Spend c.args.rights ∷ [] in
    seen_adds id _ _ (Write moves) c.note.new.self.items c.self.view_is
    (adds_write id _ c.take.new.self moves _ c.self.invariant c.in_ok-number.ensures.ok.entry.log c.note.ensures.items)
