use Rattle.std.proofs.Common.{◌≡◌, ap, subst, ◌∙◌}
use Rattle.std.specs.Slice.{IsItemAt}
use Rattle.world_core.specs.Values.{WorldValue}
use Rattle.world_core.specs.Sound.{IsWorld}
use Rattle.world_core.specs.declared.world.World.TheInside.{Inside}
use Rattle.world_core.proofs.IndexLaws.{DeskFound, desk_found}
use Rattle.world_core.proofs.world.World.desk.Goals as goal

pub returns : goal.returns
returns g c =
    let w = c.args.self.now in
    let same : c.deref.result.now ≡ w.desks =
    c.deref.ensures.value ∙ ap (λ (x : Inside g.row.A.Denot g.row.K.Denot). x.system.desks) c.self-inside.view_is
    ∙ ap (λ (x : WorldValue). x.desks) c.self.view_is in
    let at = subst (λ ds. IsItemAt ds c.index.result c.get.result) same c.get.ensures.lookup in
    let found : DeskFound w c.args.site c.get.result =
    desk_found w c.index.result c.args.site c.get.result c.index.ensures.value at in
    record {
      some = found.some;
      none = found.none;
      site = found.site;
      past = found.past;
      kept = subst IsWorld
          c.self.view_is c.self.invariant;
    }
