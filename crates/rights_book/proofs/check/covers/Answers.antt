use Rattle.std.proofs.Common.{◌≡◌, ◌∷◌, ◌+◌, ◌-◌, ◌≤◌, ◌<◌, drop, sym, ap, ◌∙◌, subst, arith}
use Rattle.std.proofs.lemmas.List.{drop_all}
use Rattle.rights_types.specs.Moves.{cost_of, gain_of}
use Rattle.rights_types.specs.Rights.{covers}
use Rattle.rights_types.proofs.Sums.{next_move, covers_next, covers_not}
use Rattle.rights_book.proofs.check.covers.Goals as goal

pub returns-then-cost-left : goal.returns-then-cost-left
returns-then-cost-left c =
    let m = c.m-item.result in
    let left = c.loop-m.left in
    let rest = drop (c.loop-m.m-index + 1) c.args.moves.now in
    let next = next_move c.args.moves.now c.loop-m.m-index m c.loop-m-test.true c.m-item.is in
    let lt : left < cost_of m = omega (arith, c.cost-cost.ensures.value, c.if-cost-left.true) in
    sym (covers_not left m rest lt) ∙ ap (covers left) (sym next) ∙ c.loop-m.invariant.covered

pub loop-m-preserved : goal.loop-m-preserved
loop-m-preserved c =
    let m = c.m-item.result in
    let left = c.loop-m.left in
    let rest = drop (c.loop-m.m-index + 1) c.args.moves.now in
    let next = next_move c.args.moves.now c.loop-m.m-index m c.loop-m-test.true c.m-item.is in
    let so_far : covers left (m ∷ rest) ≡ covers c.args.rights c.args.moves.now = ap (covers left) (sym next)
    ∙ c.loop-m.invariant.covered in
    let le : cost_of m ≤ left = omega (arith, c.cost-cost.ensures.value, c.if-cost-left.false) in
    let step : (left - cost_of m) + gain_of m ≡ (left - c.cost-cost.result) + c.gain.result
    = omega (arith, c.cost-cost.ensures.value, c.gain.ensures.value) in
    record {
      covered = subst (λ r. covers r rest ≡ covers c.args.rights c.args.moves.now) step
          (sym (covers_next left m rest le) ∙ so_far);
      bound = omega (arith, c.loop-m.invariant.bound, c.gain.ensures.range);
    }

pub returns : goal.returns
returns c =
    ap (covers c.loop-m.left) (sym (drop_all c.loop-m.m-index c.args.moves.now c.loop-m-test.false))
    ∙ c.loop-m.invariant.covered
