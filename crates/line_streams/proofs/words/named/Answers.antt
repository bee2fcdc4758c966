use Rattle.std.proofs.Common.{◌∙◌, refl, sym, arith}
use Rattle.line_streams.proofs.WordLaws.{named_at}
use Rattle.line_streams.proofs.words.named.Goals as goal

pub returns-then-is_same : goal.returns-then-is_same
returns-then-is_same g c =
    let here = named_at c.args.table.now c.loop-name.name-index c.loop-name-item.result c.args.text.now
    (omega arith) c.loop-name-item.is in
    sym (c.loop-name.invariant ∙ here ∙ rw (← c.if-is_same.ensures) refl)

pub loop-name-preserved : goal.loop-name-preserved
loop-name-preserved g c =
    let here = named_at c.args.table.now c.loop-name.name-index c.loop-name-item.result c.args.text.now
    (omega arith) c.loop-name-item.is in
    c.loop-name.invariant ∙ here ∙ rw (← c.if-is_same.ensures) refl
