use Rattle.std.proofs.Common.{◌<◌, ap, subst, arith}
use Rattle.world_core.specs.Worlds.{count, on_way}
use Rattle.world_core.specs.Sound.{IsWorld}
use Rattle.world_core.proofs.ReaderLaws.{row_fits}
use Rattle.world_core.proofs.world.World.way_from.Goals as goal

pub overflow_add-way : goal.overflow_add-way
overflow_add-way g c =
    let w = c.args.self.now in
    let is : IsWorld w = subst IsWorld c.self.view_is c.self.invariant in
    let low = c.number.ensures.range.0 in
    let more : c.loop-index.index < count w = omega (arith, c.loop-index-test.true, c.sites-index-end.ensures.value) in
    omega (
      arith,
      c.loop-index.invariant,
      c.way-way.ensures,
      ap (λ s. on_way w c.args.origin s) c.known.ensures,
      row_fits w c.args.origin c.loop-index.index is (low, c.requires) more,
    )
