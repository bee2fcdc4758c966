use Rattle.std.proofs.Common.{ℕ, ◌<◌, ap, subst, arith}
use Rattle.rights_types.specs.Chains.{moves_of}
use Rattle.rights_types.specs.Rights.{issued, spent, sum_sites}
use Rattle.rights_types.proofs.SiteSums.{sum_next}
use Rattle.world_core.specs.Worlds.{count, log, held_by, on_way}
use Rattle.world_core.specs.Sound.{IsWorld}
use Rattle.world_core.proofs.ReaderLaws.{SumsFit, sums_fit}
use Rattle.world_core.proofs.world.World.totals.Given as given
use Rattle.world_core.proofs.world.World.totals.Goals as goal
use Rattle.world_core.proofs.world.World.totals.Goals.{After-issued}

-- the sums over one more site fit
fits : (g : given.Over) (c : goal.After-issued g) → SumsFit c.args.self.now c.loop-index.index
fits g c =
    let w = c.args.self.now in
    let is : IsWorld w = subst IsWorld c.self.view_is c.self.invariant in
    let more : c.loop-index.index < count w = omega (arith, c.loop-index-test.true, c.sites-index-end.ensures.value) in
    sums_fit w c.loop-index.index is more

pub overflow_add-totals : goal.overflow_add-totals
overflow_add-totals g c =
    let more = (fits g (goal.at.overflow_add-totals g c).After-issued).issued_fit in
    let this = ap (λ s. issued (moves_of (log c.args.self.now s))) c.known-site.ensures in
    omega (arith, c.loop-index.invariant.issued_is, c.issued.ensures, this, more)

pub overflow_add-totals-in-loop-index : goal.overflow_add-totals-in-loop-index
overflow_add-totals-in-loop-index g c =
    let more = (fits g (goal.at.overflow_add-totals-in-loop-index g c).After-issued).spent_fit in
    let this = ap (λ s. spent (moves_of (log c.args.self.now s))) c.known-site.ensures in
    omega (arith, c.loop-index.invariant.spent_is, c.spent.ensures, this, more)

pub overflow_add-totals-in-loop-index-2 : goal.overflow_add-totals-in-loop-index-2
overflow_add-totals-in-loop-index-2 g c =
    let more = (fits g (goal.at.overflow_add-totals-in-loop-index-2 g c).After-issued).held_fit in
    let this = ap (held_by c.args.self.now) c.known-site.ensures in
    omega (arith, c.loop-index.invariant.held_is, c.held.ensures, this, more)

pub overflow_add-totals-in-loop-index-3 : goal.overflow_add-totals-in-loop-index-3
overflow_add-totals-in-loop-index-3 g c =
    let more = (fits g (goal.at.overflow_add-totals-in-loop-index-3 g c).After-issued).way_fit in
    let this = ap (λ s. sum_sites (count c.args.self.now) (λ k. on_way c.args.self.now s k)) c.known-site.ensures in
    omega (arith, c.loop-index.invariant.way_is, c.way_from.ensures, this, more)

pub loop-index-preserved : goal.loop-index-preserved
loop-index-preserved g c =
    let w = c.args.self.now in
    let i = c.loop-index.index in
    let so_far = c.loop-index.invariant in
    let f : ℕ → ℕ = λ s. issued (moves_of (log w s)) in
    let h : ℕ → ℕ = λ s. spent (moves_of (log w s)) in
    let y : ℕ → ℕ = λ o. sum_sites (count w) (λ k. on_way w o k) in
    record {
      issued_is = omega (arith, so_far.issued_is, c.issued.ensures, ap f c.known-site.ensures, sum_next i f);
      spent_is = omega (arith, so_far.spent_is, c.spent.ensures, ap h c.known-site.ensures, sum_next i h);
      held_is =
          omega (arith, so_far.held_is, c.held.ensures, ap (held_by w) c.known-site.ensures, sum_next i (held_by w));
      way_is = omega (arith, so_far.way_is, c.way_from.ensures, ap y c.known-site.ensures, sum_next i y);
    }
