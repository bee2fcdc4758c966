use Rattle.std.proofs.Common.{arith, sym, ◌∙◌}
use Rattle.apply_lanes.proofs.StopLaws.{none_missing, left_bound}
use Rattle.apply_lanes.proofs.stopping.end.Goals as goal

pub reconcile-requires-clause-seats : goal.reconcile-requires-clause-seats
reconcile-requires-clause-seats g c =
    let back = none_missing c.args.kept _ _ (sym c.missing.ensures.missing ∙ c.in-None.is) in
    omega (arith, back.0, left_bound c.args.kept c.missing.ensures.valid.has_shards)

pub reconcile-requires-clause-applied : goal.reconcile-requires-clause-applied
reconcile-requires-clause-applied g c =
    let back = none_missing c.args.kept _ _ (sym c.missing.ensures.missing ∙ c.in-None.is) in
    omega (arith, back.1, c.missing.ensures.valid.has_shards.appliers)
