use Rattle.std.proofs.Common.{◌∙◌, add-one, arith, refl}
use Rattle.std.proofs.lemmas.Result.{err_from_is_err_and}
use Rattle.site_node.proofs.peers.send_to_all.Goals as goal

pub returns-in_err-sent-clause-err : goal.returns-in_err-sent-clause-err
returns-in_err-sent-clause-err g c =
    let inv = c.loop-index.invariant in
    let p = err_from_is_err_and c.from_residual.result c.from_residual.ensures.1 in
    rw p.1 (
    record {
      index = c.loop-index.index;
      among = omega (arith, c.loop-index-test.true, c.loop-index.auto.index-end, c.count-index-end.ensures.value);
      mid = c.loop-index.peers;
      sent = c.loop-index.sent;
      first = inv.first;
      stopped = c.in_err-sent.ensures.err;
    }
    )

pub loop-index-preserved : goal.loop-index-preserved
loop-index-preserved g c =
    let inv = c.loop-index.invariant in
    record {
      first = rw add-one (
        c.loop-index.peers,
        c.loop-index.sent,
        c.in_ok-sent.field-0,
        inv.first,
        c.in_ok-sent.ensures.ok,
        refl,
      );
      range = omega (arith, inv.range, c.in_ok-sent.ensures.range);
      same = c.send_due.ensures.same ∙ inv.same;
    }
