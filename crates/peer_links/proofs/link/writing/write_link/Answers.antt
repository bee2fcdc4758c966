use Rattle.std.proofs.Common.{Ok, Err, ◌∙◌}
use Rattle.std.proofs.lemmas.Result.{err_from_is_err_and}
use Rattle.peer_links.proofs.WriteLaws.{sends_copied, sends_large}
use Rattle.peer_links.proofs.link.writing.write_link.Goals as goal

pub batches-preserved-in-Continue-1 : goal.batches-preserved-in-Continue-1
batches-preserved-in-Continue-1 g c =
    let sent = sends_copied g.S.LineSource.takes c.args.source.now c.batches.source c.next_batch.new.self
    c.write_copied.new.source
    (g.W.Write.contents c.args.writer.now) (g.W.Write.contents c.batches.writer)
    (g.W.Write.contents c.write_copied.new.writer) (Ok tt) c.batches.invariant.3 c.in-Copied.ensures.batch.2
    c.in_ok-write_copied-in-Copied.ensures in
    (tt, tt, c.next_batch.ensures.same ∙ c.batches.invariant.2, sent)

pub returns-in_err-write_copied-in-Copied-clause-sends : goal.returns-in_err-write_copied-in-Copied-clause-sends
returns-in_err-write_copied-in-Copied-clause-sends g c =
    let p = err_from_is_err_and c.from_residual.result c.from_residual.ensures.1 in
    rw (p.1, p.2)
    (sends_copied g.S.LineSource.takes c.args.source.now c.batches.source c.next_batch.new.self
    c.write_copied.new.source
    (g.W.Write.contents c.args.writer.now) (g.W.Write.contents c.batches.writer)
    (g.W.Write.contents c.write_copied.new.writer) (Err c.in_err-write_copied-in-Copied.field-0.0)
    c.batches.invariant.3 c.in-Copied.ensures.batch.2 c.in_err-write_copied-in-Copied.ensures)

pub returns-in_err-write_line-in-Large-clause-sends : goal.returns-in_err-write_line-in-Large-clause-sends
returns-in_err-write_line-in-Large-clause-sends g c =
    let p = err_from_is_err_and c.from_residual-in_err-write_line-in-Large.result
    c.from_residual-in_err-write_line-in-Large.ensures.1 in
    rw (p.1, p.2)
    (sends_large g.S.LineSource.takes c.args.source.now c.batches.source c.next_batch.new.self
    (g.W.Write.contents c.args.writer.now) (g.W.Write.contents c.batches.writer)
    (g.W.Write.contents c.write_line.new.writer)
    c.in-Large.line.items c.deref.result.now (Err c.in_err-write_line-in-Large.field-0.0) c.batches.invariant.3
    c.in-Large.ensures.batch.0 c.in-Large.ensures.batch.2 c.deref.ensures.value
    c.in_err-write_line-in-Large.ensures)

pub batches-preserved : goal.batches-preserved
batches-preserved g c =
    let sent = sends_large g.S.LineSource.takes c.args.source.now c.batches.source c.next_batch.new.self
    (g.W.Write.contents c.args.writer.now) (g.W.Write.contents c.batches.writer)
    (g.W.Write.contents c.write_line.new.writer)
    c.in-Large.line.items c.deref.result.now (Ok tt) c.batches.invariant.3 c.in-Large.ensures.batch.0
    c.in-Large.ensures.batch.2 c.deref.ensures.value c.in_ok-write_line-in-Large.ensures in
    (tt, tt, c.next_batch.ensures.same ∙ c.batches.invariant.2, sent)
