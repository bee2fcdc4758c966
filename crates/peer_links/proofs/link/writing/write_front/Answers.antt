use Rattle.std.proofs.Common.{arith, length-take, length-drop}
use Rattle.line_streams.proofs.WriteLaws.{wrote_more}
use Rattle.peer_links.proofs.link.writing.write_front.Goals as goal

pub writes-preserved : goal.writes-preserved
writes-preserved g c =
    let b = simp (length-take, length-drop) at c.write_some-count.ensures.within in (
      omega (arith, b),
      wrote_more _ _ _ c.args.text.now c.writes.done c.write_some-count.result c.writes.invariant.1
          c.write_some-count.ensures.bytes,
    )
