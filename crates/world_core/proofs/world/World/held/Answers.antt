use Rattle.std.proofs.Common.{sym, ◌∙◌}
use Rattle.world_core.specs.Worlds.{applied}
use Rattle.world_core.proofs.ReaderLaws.{stands, held_value, none_held}
use Rattle.world_core.proofs.world.World.held.Goals as goal

pub returns-in-Some : goal.returns-in-Some
returns-in-Some g c =
    let w = c.args.self.now in
    let found = c.in-Some.ensures in
    c.held.ensures.applied (applied w c.args.site)
    (stands w c.args.site c.in-Some.desk.now found.kept found.site found.some)
    ∙ held_value w c.args.site c.in-Some.desk.now found.kept found.site found.some

pub returns-in-None : goal.returns-in-None
returns-in-None g c =
    let w = c.args.self.now in
    let none = c.in-None.ensures in
    sym (none_held w c.args.site none.kept none.past none.none)
