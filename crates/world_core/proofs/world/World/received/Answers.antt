use Rattle.std.proofs.Common.{sym, ap, ◌∙◌}
use Rattle.rights_types.specs.Chains.{moves_of}
use Rattle.rights_types.specs.Rights.{to}
use Rattle.world_core.specs.Worlds.{applied}
use Rattle.world_core.proofs.ReaderLaws.{stands, received_value, none_applied, none_to}
use Rattle.world_core.proofs.world.World.received.Goals as goal

pub returns-in-Some : goal.returns-in-Some
returns-in-Some g c =
    let w = c.args.self.now in
    let found = c.in-Some.ensures in
    c.received_from.ensures.applied (applied w c.args.site)
    (stands w c.args.site c.in-Some.desk.now found.kept found.site found.some)
    ∙ received_value w c.args.site c.args.origin c.in-Some.desk.now found.kept found.site found.some

pub returns-in-None : goal.returns-in-None
returns-in-None g c =
    let none = c.in-None.ensures in
    sym (ap (λ es. to c.args.site (moves_of es))
    (none_applied c.args.self.now c.args.site c.args.origin none.kept none.past) ∙ none_to c.args.site)
