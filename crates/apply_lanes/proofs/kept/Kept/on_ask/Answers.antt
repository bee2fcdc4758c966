use Rattle.apply_lanes.proofs.KeptLaws.{any_handed}
use Rattle.apply_lanes.specs.Steps.{answer_change}
use Rattle.apply_lanes.proofs.RecordLaws.{kept_answer, seen_adds, adds_answer}
use Rattle.apply_lanes.proofs.StepLaws.{seen, steps_answer}
use Rattle.apply_lanes.proofs.kept.Kept.on_ask.Goals as goal

pub invariant_of-self-2 : goal.invariant_of-self-2
invariant_of-self-2 g c = any_handed c.note.new.self.handed c.note.new.self.lines (kept_answer _ _ c.on_ask.new.self c.args.ask.now _ _ _ c.self.invariant
    c.in_ok-reply.ensures.ok c.in_ok-reply.ensures.keeps c.note.ensures.items)

pub returns-clause-step : goal.returns-clause-step
returns-clause-step g c =
    let id = g.D.DeskNames.id in
    let reply = c.in_ok-reply.reply in
    seen id _ _ (answer_change c.args.ask.now reply.answer) c.on_ask.new.self c.self.view_is
    (steps_answer id _ c.on_ask.new.self c.args.ask.now reply.answer reply.number c.self.invariant
    c.in_ok-reply.ensures.ok c.in_ok-reply.ensures.keeps)

pub returns-clause-records : goal.returns-clause-records
returns-clause-records g c =
    let id = g.D.DeskNames.id in
    let reply = c.in_ok-reply.reply in
    seen_adds id _ _ (answer_change c.args.ask.now reply.answer) c.note.new.self.items c.self.view_is
    (adds_answer id _ c.on_ask.new.self c.args.ask.now reply.answer reply.number _ c.self.invariant
    c.in_ok-reply.ensures.ok c.note.ensures.items)
