use Rattle.apply_lanes.proofs.BetweenLaws as lemmas
use Rattle.apply_lanes.proofs.laws.taken_in.Goals as goal

pub returns-clause-between : goal.returns-clause-between
returns-clause-between g c delivered sends =
    let prefix = rw c.into_inlet.ensures.inlet at c.ends_taken_in.ensures.prefix in
    rw (← c.applier.view_is) (lemmas.between g.D.DeskNames.id delivered c.args.intake _ sends
    c.applier.invariant.counted prefix)
