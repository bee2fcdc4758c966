use Rattle.std.proofs.Common.{sym, ap}
use Rattle.rights_types.specs.Chains.{end}
use Rattle.world_core.specs.Worlds.{applied}
use Rattle.world_core.proofs.ReaderLaws.{stands, none_applied}
use Rattle.world_core.proofs.world.World.applied_end.Goals as goal

pub returns-in-Some : goal.returns-in-Some
returns-in-Some g c =
    let found = c.in-Some.ensures in
    c.applied.ensures.applied (applied c.args.self.now c.args.site)
    (stands c.args.self.now c.args.site c.in-Some.desk.now found.kept found.site found.some)

pub returns-in-None : goal.returns-in-None
returns-in-None g c =
    let w = c.args.self.now in
    sym (ap end (none_applied w c.args.site c.args.origin c.in-None.ensures.kept c.in-None.ensures.past))
