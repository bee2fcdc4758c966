use Rattle.world_core.proofs.LinksLaws.{lends, some_there}
use Rattle.world_core.proofs.links.Links.query_line.Goals as goal

pub returns : goal.returns
returns g c =
    let at = lends _ c.args.self.now _ _ _ _ c.self.view_is c.index.ensures.value (some_there _ c.requires.there)
    c.index_mut.ensures.value c.in-Some.is in
    let asks = c.query_line.ensures.asks in
    (c.in-Some.link, c.query_line.new.self, asks.0, at.is, asks.1, c.query_line.ensures.rest, at.changed _, asks.2)
