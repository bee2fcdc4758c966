use Rattle.std.proofs.Common.{◌≡◌, List, Option, Some, None, ap, subst, ◌∙◌}
use Rattle.std.specs.Option.{option_copied}
use Rattle.std.specs.Slice.{IsItemAt}
use Rattle.rights_types.specs.Places.{at_site}
use Rattle.world_core.specs.Values.{LinkValue, WorldValue}
use Rattle.world_core.specs.Worlds.{link}
use Rattle.world_core.specs.Sound.{IsWorld}
use Rattle.world_core.specs.declared.world.World.TheInside.{Inside}
use Rattle.world_core.proofs.IndexLaws.{row_found, no_row, link_sound}
use Rattle.world_core.proofs.world.World.link.Goals as goal

pub returns-in_err-get : goal.returns-in_err-get
returns-in_err-get g c =
    let w = c.args.self.now in
    let same : c.deref.result.now ≡ w.links =
    c.deref.ensures.value ∙ ap (λ (x : Inside g.row.A.Denot g.row.K.Denot). x.system.links) c.self-inside.view_is
    ∙ ap (λ (x : WorldValue). x.links) c.self.view_is in
    let at = subst (λ rows. IsItemAt rows c.index.result None) same c.in_err-get.ensures.lookup in
    let value : option_copied c.from_residual.result ≡ link w c.args.site c.args.origin =
    ap option_copied c.from_residual.ensures ∙ no_row w c.index.result c.args.site c.args.origin c.index.ensures.value
    at in
    record {
      value = value;
      sound = link_sound w c.args.site c.args.origin c.from_residual.result
          (subst IsWorld c.self.view_is c.self.invariant) value;
    }

pub returns : goal.returns
returns g c =
    let w = c.args.self.now in
    let same : c.deref.result.now ≡ w.links =
    c.deref.ensures.value ∙ ap (λ (x : Inside g.row.A.Denot g.row.K.Denot). x.system.links) c.self-inside.view_is
    ∙ ap (λ (x : WorldValue). x.links) c.self.view_is in
    let at = subst (λ rows. IsItemAt rows c.index.result (Some c.in_ok-get.field-0)) same c.in_ok-get.ensures.lookup in
    let value : option_copied c.get-2.result ≡ link w c.args.site c.args.origin =
    c.get-2.ensures ∙ ap (λ (r : List (Option LinkValue)). at_site r c.args.origin None)
    (row_found w c.index.result c.args.site c.in_ok-get.field-0 c.index.ensures.value at) in
    record {
      value = value;
      sound = link_sound w c.args.site c.args.origin c.get-2.result
          (subst IsWorld c.self.view_is c.self.invariant) value;
    }
