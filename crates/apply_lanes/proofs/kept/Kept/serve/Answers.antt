use Rattle.apply_lanes.proofs.KeptLaws.{any_handed}
use Rattle.std.proofs.Common.{ℕ, ◌-◌, [], ◌∷◌, subst, ◌∙◌, rules}
use Rattle.rights_types.specs.declared.moves.Move.TheVariants.{Spend}
use Rattle.rights_protocol.specs.Schedules.LocalChange.{Write}
use Rattle.apply_lanes.specs.Kepts.{KeptValue, IsFront}
use Rattle.apply_lanes.proofs.KeptLaws.{raised_none, issued-spend, spent-spend, served}
use Rattle.apply_lanes.proofs.RecordLaws.{kept_written, Adds, seen_adds, adds_write}
use Rattle.std.proofs.Common.{Some}
use Rattle.apply_lanes.specs.Steps.{StepsBy, serve_change}
use Rattle.apply_lanes.proofs.StepLaws.{seen, steps_serve}
use Rattle.apply_lanes.proofs.kept.Kept.serve.Goals as goal

pub invariant_of-self-2 : goal.invariant_of-self-2
invariant_of-self-2 g c =
    let ticket = c.in_ok-ticket.ensures in
    let front = served c.self.inside.desk c.serve.new.self _ _ _ _ _ ticket.ok ticket.keeps c.in-Some.is
    c.spent-before.ensures.booked c.spent.ensures.booked in
    any_handed c.note.new.self.handed c.note.new.self.lines (kept_written _ _ c.serve.new.self _ _ _ _ _ _ c.self.invariant front.serves.entry front.keeps
    (issued-spend _) (spent-spend _ ∙ front.amount) (raised_none _) c.add.ensures.sum c.note.ensures.items)

pub returns-clause-front : goal.returns-clause-front
returns-clause-front g c =
    let ticket = c.in_ok-ticket.ensures in
    let front = served c.self.inside.desk c.serve.new.self _ _ _ _ _ ticket.ok ticket.keeps c.in-Some.is
    c.spent-before.ensures.booked c.spent.ensures.booked in
    subst (λ (k : KeptValue). IsFront k.desk.queue.waiting (
      c.in-Some.ticket,
      c.in-Some.number,
      c.spent.result - c.spent-before.result,
    )) c.self.view_is
    (front.serves.deadline, rw (← front.amount) front.serves.front)

pub returns-clause-counters : goal.returns-clause-counters
returns-clause-counters g c = search rules

pub returns-clause-told : goal.returns-clause-told
returns-clause-told g c = search rules

pub returns-clause-step : goal.returns-clause-step
returns-clause-step g c =
    let id = g.D.DeskNames.id in
    let ticket = c.in_ok-ticket.ensures in
    let front = served c.self.inside.desk c.serve.new.self _ _ _ _ _ ticket.ok ticket.keeps c.in-Some.is
    c.spent-before.ensures.booked c.spent.ensures.booked in
    let step = steps_serve id _ c.serve.new.self c.in-Some.ticket c.in-Some.number front.serves.amount c.self.invariant
    front.serves.entry front.keeps in
    let spent : ℕ = c.spent.result - c.spent-before.result in
    seen id _ _ (serve_change (Some (c.in-Some.ticket, c.in-Some.number, spent))) c.serve.new.self c.self.view_is
    (subst (λ n. StepsBy id c.self.inside.desk (serve_change (Some (c.in-Some.ticket, c.in-Some.number, n)))
    c.serve.new.self) front.amount step)

pub returns-clause-records : goal.returns-clause-records
returns-clause-records g c =
    let id = g.D.DeskNames.id in
    let ticket = c.in_ok-ticket.ensures in
    let front = served c.self.inside.desk c.serve.new.self _ _ _ _ _ ticket.ok ticket.keeps c.in-Some.is
    c.spent-before.ensures.booked c.spent.ensures.booked in
    let added = seen_adds id _ c.args.self.now (Write (Spend front.serves.amount ∷ [])) c.note.new.self.items
    c.self.view_is (adds_write id _ c.serve.new.self (Spend front.serves.amount ∷ []) _ c.self.invariant
    front.serves.entry.log c.note.ensures.items) in
    subst (λ n. Adds id c.args.self.now (serve_change (Some (c.in-Some.ticket, c.in-Some.number, n)))
    c.note.new.self.items) front.amount added
