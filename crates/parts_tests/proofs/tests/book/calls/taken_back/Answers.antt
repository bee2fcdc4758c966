use Rattle.std.proofs.Common.{◌+◌, drop, ap, arith}
use Rattle.std.proofs.lemmas.List.{drop_all}
use Rattle.rights_types.specs.Rights.{back}
use Rattle.rights_types.proofs.Sums.{next_move, back-cons, back-nil}
use Rattle.parts_tests.proofs.tests.book.calls.taken_back.Goals as goal

pub loop-m-preserved : goal.loop-m-preserved
loop-m-preserved c =
    let m = c.m-item.result in
    let rest = drop (c.loop-m.m-index + 1) c.args.moves.now in
    let next = next_move c.args.moves.now c.loop-m.m-index m c.loop-m-test.true c.m-item.is in
    record {
      value = omega (
        arith,
        c.loop-m.invariant.value,
        c.taken_back_by-sum.ensures.value,
        ap (back c.args.site) next,
        back-cons c.args.site m rest,
      );
      bound = omega (arith, c.loop-m.invariant.bound, c.taken_back_by-sum.ensures.range);
    }

pub returns : goal.returns
returns c =
    omega (
      arith,
      c.loop-m.invariant.value,
      ap (back c.args.site) (drop_all c.loop-m.m-index c.args.moves.now c.loop-m-test.false),
      back-nil c.args.site,
    )
