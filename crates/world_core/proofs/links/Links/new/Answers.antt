use Rattle.std.proofs.Common.{◌≡◌, ◌+◌, refl, sym, arith}
use Rattle.std.proofs.lemmas.List.FromFn.{map-range_with_len_more}
use Rattle.world_core.specs.Worlds.{link_to}
use Rattle.world_core.proofs.links.Links.new.Goals as goal
use Rattle.world_core.proofs.links.Links.new.Goals.{then-eq, else-eq+in_ok-new}

pub loop-index-preserved : goal.loop-index-preserved
loop-index-preserved g c =
    let next : 1 + c.loop-index.index ≡ c.loop-index.index + 1 = omega arith in
    let made : c.if-eq.link ≡ link_to c.args.sites c.args.me (c.loop-index.index + 1) =
    elim c.if-eq.branch [
      | then-eq w ↦ (
          let me = rw c.known-origin.ensures at w.if-eq.ensures in
          rw (w.link-is, sym me) refl)
      | else-eq+in_ok-new w ↦ (
          let other = rw c.known-origin.ensures at w.if-eq.ensures in
          rw (w.link-is, w.in_ok-new.ensures, c.known-origin.ensures, sym other) refl)
    ] in
    rw (c.in_ok-push.ensures.items, c.loop-index.invariant, made)
    (sym (map-range_with_len_more (link_to c.args.sites c.args.me) 1 c.loop-index.index _ next))

pub returns : goal.returns
returns g c =
    let all : c.loop-index.index ≡ c.args.sites = omega arith in
    rw (c.loop-index.invariant, all) refl
