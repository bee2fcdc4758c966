use Rattle.std.proofs.Common.{sym, subst, ap, ◌∙◌, rules}
use Rattle.link_intake.specs.Intakes.{IntakeValue, Receives, arrival_of}
use Rattle.link_intake.proofs.IntakeLaws.{few_come, dead_intake, can_take, still_intake, line_leaves, finds_closed}
use Rattle.link_intake.proofs.LineLaws.{receives_arrival, receives_dead}
use Rattle.link_intake.proofs.intake.Intake.on_line.Goals as goal

pub returns-then-is_dead-clause-leaves : goal.returns-then-is_dead-clause-leaves
returns-then-is_dead-clause-leaves g c =
    let came = c.in-Ok.ensures.ok in
    rw (← c.self.view_is) (finds_closed _ _ came.0 (arrival_of c.in-Ok.came) _ came.1 came.2 (search rules))

pub take_in-requires-clause-few : goal.take_in-requires-clause-few
take_in-requires-clause-few g c = let came = c.in-Ok.ensures.ok in few_come _ came.0 _ _ came.2

pub take_in-requires-clause-entries : goal.take_in-requires-clause-entries
take_in-requires-clause-entries g c =
    let came = c.in-Ok.ensures.ok in
    can_take _ came.0 _ _ c.self.invariant (search rules) (ap (λ (i : IntakeValue _). i.finished) c.self.view_is
    ∙ c.requires) came.2

pub invariant_of-self-2 : goal.invariant_of-self-2
invariant_of-self-2 g c =
    let came = c.in-Ok.ensures.ok in
    still_intake _ _ came.0 (arrival_of c.in-Ok.came) c.take_in.result c.self.invariant (search rules)
    (ap (λ (i : IntakeValue _). i.finished) c.self.view_is ∙ c.requires) came.2
    (c.take_in.ensures.ok, c.take_in.ensures.err)

pub returns-clause-leaves : goal.returns-clause-leaves
returns-clause-leaves g c =
    let came = c.in-Ok.ensures.ok in
    rw (← c.self.view_is) (line_leaves _ _ _ (arrival_of c.in-Ok.came) c.take_in.result
    (record { message = came.0; read_as = came.1; arrives = came.2; lane = c.take_in.ensures.lane })
    (c.take_in.ensures.ok, c.take_in.ensures.err))

pub invariant_of-self : goal.invariant_of-self
invariant_of-self g c = search rules

pub returns-in-Err-clause-refused : goal.returns-in-Err-clause-refused
returns-in-Err-clause-refused g c = search rules

pub returns-in-Err-clause-leaves : goal.returns-in-Err-clause-leaves
returns-in-Err-clause-leaves g c = search rules

pub returns-in-Err-clause-dead : goal.returns-in-Err-clause-dead
returns-in-Err-clause-dead g c = search rules

pub returns-in-Err-clause-lane : goal.returns-in-Err-clause-lane
returns-in-Err-clause-lane g c = search rules

pub returns-in-Err-clause-unfinished : goal.returns-in-Err-clause-unfinished
returns-in-Err-clause-unfinished g c = search rules

pub invariant_of-self-then-is_dead : goal.invariant_of-self-then-is_dead
invariant_of-self-then-is_dead g c =
    let came = c.in-Ok.ensures.ok in
    dead_intake _ came.0 (arrival_of c.in-Ok.came) _ c.self.invariant came.2 (search rules)

pub returns-then-is_dead-clause-refused : goal.returns-then-is_dead-clause-refused
returns-then-is_dead-clause-refused g c = search rules

pub returns-then-is_dead-clause-dead : goal.returns-then-is_dead-clause-dead
returns-then-is_dead-clause-dead g c = search rules

pub returns-then-is_dead-clause-lane : goal.returns-then-is_dead-clause-lane
returns-then-is_dead-clause-lane g c = search rules

pub returns-then-is_dead-clause-unfinished : goal.returns-then-is_dead-clause-unfinished
returns-then-is_dead-clause-unfinished g c = search rules

pub take_in-requires-clause-live : goal.take_in-requires-clause-live
take_in-requires-clause-live g c = search rules

pub returns-clause-refused : goal.returns-clause-refused
returns-clause-refused g c = search rules

pub returns-clause-dead : goal.returns-clause-dead
returns-clause-dead g c = search rules

pub returns-clause-lane : goal.returns-clause-lane
returns-clause-lane g c = search rules

pub returns-clause-unfinished : goal.returns-clause-unfinished
returns-clause-unfinished g c = search rules

pub returns-then-is_dead-clause-log : goal.returns-then-is_dead-clause-log
returns-then-is_dead-clause-log g c es reached of_log h =
    let came = c.in-Ok.ensures.ok in
    let receives = subst (Receives es reached) (sym c.self.view_is) h in
    receives_dead es reached _ _ came.0 (arrival_of c.in-Ok.came) _ receives of_log came.1 came.2 (search rules)

pub returns-clause-log : goal.returns-clause-log
returns-clause-log g c es reached of_log h =
    let came = c.in-Ok.ensures.ok in
    let receives = subst (Receives es reached) (sym c.self.view_is) h in
    receives_arrival es reached _ _ _ came.0 (arrival_of c.in-Ok.came) c.take_in.result receives of_log came.1 (search rules)
    (ap (λ (i : IntakeValue _). i.finished) c.self.view_is ∙ c.requires)
    came.2 (c.take_in.ensures.ok, c.take_in.ensures.err)
