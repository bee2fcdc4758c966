use Rattle.std.proofs.Common.{Some, ap, ◌∙◌}
use Rattle.rights_types.specs.Places.{set_site}
use Rattle.world_core.proofs.LinksLaws.{lends, some_there}
use Rattle.world_core.proofs.links.Links.hear.Goals as goal

pub returns : goal.returns
returns g c =
    let at = lends _ c.args.self.now _ _ _ _ c.self.view_is c.index.ensures.value (some_there _ c.requires.there)
    c.index_mut.ensures.value c.in-Some.is in
    (c.in-Some.link, at.is, at.changed _ ∙ ap (λ l. set_site c.args.self.now c.args.origin (Some l)) c.hear.ensures)
