use Rattle.apply_lanes.proofs.KeptLaws.{any_handed}
use Rattle.std.proofs.Common.{List, [], ◌∷◌}
use Rattle.rights_types.specs.declared.moves.Move.{Move}
use Rattle.rights_types.specs.declared.moves.Move.TheVariants.{Give}
use Rattle.rights_protocol.specs.Schedules.LocalChange.{Write}
use Rattle.apply_lanes.proofs.KeptLaws.{raised_none, issued-give, spent-give}
use Rattle.apply_lanes.proofs.RecordLaws.{kept_written, seen_adds, adds_write}
use Rattle.apply_lanes.proofs.StepLaws.{seen, steps_write}
use Rattle.apply_lanes.proofs.kept.Kept.give_back.Goals as goal

pub invariant_of-self-2 : goal.invariant_of-self-2
invariant_of-self-2 g c =
    any_handed c.note.new.self.handed c.note.new.self.lines (kept_written _ _ c.give_back.new.self _ _ _ _ _ _ c.self.invariant c.in_ok-number.ensures.ok.entry
    c.in_ok-number.ensures.keeps (issued-give _ _) (spent-give _ _) (raised_none _) (raised_none _) c.note.ensures.items)

pub returns-clause-step : goal.returns-clause-step
returns-clause-step g c =
    let id = g.D.DeskNames.id in
    let moves : List Move = Give c.args.peer c.args.amount ∷ [] in
    seen id _ _ (Write moves) c.give_back.new.self c.self.view_is
    (steps_write id _ c.give_back.new.self moves c.self.invariant c.in_ok-number.ensures.ok.entry
    c.in_ok-number.ensures.keeps)

pub returns-clause-records : goal.returns-clause-records
returns-clause-records g c =
    let id = g.D.DeskNames.id in
    let moves : List Move = Give c.args.peer c.args.amount ∷ [] in
    seen_adds id _ _ (Write moves) c.note.new.self.items c.self.view_is
    (adds_write id _ c.give_back.new.self moves _ c.self.invariant c.in_ok-number.ensures.ok.entry.log c.note.ensures.items)
