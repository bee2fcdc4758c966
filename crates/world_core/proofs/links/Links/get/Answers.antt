use Rattle.std.proofs.Common.{None, ap, ◌∙◌}
use Rattle.std.specs.Option.{option_copied}
use Rattle.world_core.proofs.LinksLaws.{reads, reads_past}
use Rattle.world_core.proofs.links.Links.get.Goals as goal

pub returns-in_err-get : goal.returns-in_err-get
returns-in_err-get g c =
    ap (λ l. option_copied l) c.from_residual.ensures
    ∙ reads_past _ c.args.self.now _ _ (c.deref.ensures.value ∙ c.self.view_is) c.index.ensures.value
    c.in_err-get.ensures.lookup.3

pub returns : goal.returns
returns g c =
    c.as_ref.ensures.value ∙ c.in_ok-get.ensures.lookup.3.1 None
    ∙ reads _ c.args.self.now _ _ (c.deref.ensures.value ∙ c.self.view_is) c.index.ensures.value
