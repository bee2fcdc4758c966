use Rattle.std.proofs.Common.{Bool, subst}
use Rattle.apply_lanes.specs.Appliers.{Fills}
use Rattle.desk_turns.proofs.ApplyLaws.{takes_again}
use Rattle.desk_turns.proofs.turns.Turns.apply_again.Goals as goal

pub returns-in-Ok-true : goal.returns-in-Ok-true
returns-in-Ok-true g c =
    let old = c.args.applier.now in
    let taken = c.fill_soon.new.self in
    let fills = subst (λ (more : Bool). Fills old more taken) c.in-Ok-true.field-0-test c.in-Ok-true.ensures.ok in
    takes_again g.D.DeskNames.id c.args.self.now old c.args.entry.now taken c.take.result c.take.new.self c.take.new.with
    fills c.take.ensures
