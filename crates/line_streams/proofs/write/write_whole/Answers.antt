use Rattle.std.proofs.Common.{arith, length-take, length-drop}
use Rattle.line_streams.proofs.WriteLaws.{wrote_more}
use Rattle.line_streams.proofs.write.write_whole.Goals as goal

pub loop-done-preserved : goal.loop-done-preserved
loop-done-preserved g c =
    let b = simp (length-take, length-drop) at c.write_some-count.ensures.within in (
      omega arith,
      wrote_more _ _ _ c.args.text.now c.loop-done.done c.write_some-count.result c.loop-done.invariant.1
          c.write_some-count.ensures.bytes,
    )
