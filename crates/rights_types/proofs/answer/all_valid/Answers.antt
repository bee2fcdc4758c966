use Rattle.std.proofs.Common.{arith}
use Rattle.std.proofs.lemmas.List.{take_more, take_all}
use Rattle.std.proofs.lemmas.List.Elements.{All-push}
use Rattle.rights_types.specs.Entries.{IsEntry}
use Rattle.rights_types.proofs.answer.all_valid.Goals as goal

pub loop-entry-preserved : goal.loop-entry-preserved
loop-entry-preserved g c =
    rw (
      take_more c.args.entries.now c.loop-entry.entry-index c.entry-item.result c.loop-entry-test.true,
      ← c.entry-item.is,
    )
    (All-push IsEntry _ c.entry-item.result c.loop-entry.invariant c.prev.ensures.valid)

pub returns : goal.returns
returns g c = rw (take_all c.loop-entry.entry-index c.args.entries.now (omega (arith, c.loop-entry-test.false))) at
    c.loop-entry.invariant
