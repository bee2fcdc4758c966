use Rattle.std.proofs.Common.{arith, sym, ap}
use Rattle.rights_types.specs.Moves.{gift_to}
use Rattle.rights_types.proofs.Sums.{to-nil, to-more}
use Rattle.rights_book.proofs.check.gifts_to.Goals as goal

pub loop-m-init : goal.loop-m-init
loop-m-init c = record { value = sym (to-nil c.args.site); bound = omega arith }

pub loop-m-preserved : goal.loop-m-preserved
loop-m-preserved c = record {
  value = omega (
    arith,
    c.loop-m.invariant.value,
    c.gift_to-gifts.ensures.value,
    to-more c.args.site c.args.moves.now c.loop-m.m-index c.m-item.result c.loop-m-test.true,
    ap (gift_to c.args.site) c.m-item.is,
  );
  bound = omega (arith, c.loop-m.invariant.bound, c.gift_to-gifts.ensures.range);
}
