use Rattle.std.proofs.Common.{sym, ap, ◌∙◌}
use Rattle.rights_types.specs.Chains.{moves_of}
use Rattle.rights_types.specs.Rights.{spent}
use Rattle.site_core.specs.Desks.{DeskValue}
use Rattle.world_core.proofs.ReaderLaws.{none_spent}
use Rattle.world_core.proofs.world.World.spent.Goals as goal

pub returns-in-None : goal.returns-in-None
returns-in-None g c =
    sym (ap (λ (d : DeskValue). spent (moves_of d.ledger.log.entries)) c.in-None.ensures.none ∙ none_spent)
