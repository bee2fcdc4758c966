use Rattle.std.proofs.Common.{◌≡◌, ◌+◌, refl, sym, arith}
use Rattle.std.proofs.lemmas.List.FromFn.{map-range_with_len_more}
use Rattle.site_core.specs.Desks.{new_desk}
use Rattle.world_core.specs.Worlds.{new_row}
use Rattle.world_core.proofs.system.System.new.Goals as goal

pub loop-index-preserved : goal.loop-index-preserved
loop-index-preserved g c =
    let next : 1 + c.loop-index.index ≡ c.loop-index.index + 1 = omega arith in
    record {
      desks = rw (
        c.in_ok-push.ensures.items,
        c.loop-index.invariant.desks,
        c.in_ok-new.ensures.made,
        c.known-site.ensures,
      )
          (sym (map-range_with_len_more (λ s. new_desk s c.args.sites) 1 c.loop-index.index _ next));
      links = rw (
        c.in_ok-push-2.ensures.items,
        c.loop-index.invariant.links,
        c.in_ok-new-2.ensures,
        c.known-site.ensures,
      )
          (sym (map-range_with_len_more (new_row c.args.sites) 1 c.loop-index.index _ next));
    }

pub returns : goal.returns
returns g c =
    let all : c.loop-index.index ≡ c.args.sites = omega arith in
    rw (c.loop-index.invariant.desks, c.loop-index.invariant.links, c.new-2.ensures, all) refl
