use Rattle.std.proofs.Common.{Bool, Ok, subst}
use Rattle.desk_turns.specs.Applying.{AppliesBatch}
use Rattle.desk_turns.proofs.ApplyLaws.{applies_again}
use Rattle.desk_turns.proofs.turns.Turns.apply_all.Goals as goal

pub batches-preserved : goal.batches-preserved
batches-preserved g c =
    let id = g.D.DeskNames.id in
    let count = c.in-Ok-default-true.field-0-0 in
    let last = c.batches.applier in
    let new = c.apply_batch.new.applier in
    let one = subst (λ (more : Bool). AppliesBatch id c.batches.self last (Ok (count, more)) c.apply_batch.new.self new)
    c.in-Ok-default-true.field-0-1-test c.in-Ok-default-true.ensures in
    applies_again id c.args.self.now c.args.applier.now c.batches.self last count c.apply_batch.new.self new
    c.batches.invariant one
