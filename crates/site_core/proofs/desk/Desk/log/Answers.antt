use Rattle.std.proofs.Common.{◌≤◌, ℕ, subst}
use Rattle.rights_types.specs.Chains.{moves_of}
use Rattle.site_core.specs.Desks.{DeskValue, grant_count}
use Rattle.site_core.proofs.desk.Desk.log.Goals as goal

pub returns-clause-once : goal.returns-clause-once
returns-clause-once g c = subst (λ (d : DeskValue). (j a : ℕ)
    → grant_count j a (moves_of d.ledger.log.entries) ≤ 1) c.self.view_is c.self.invariant.once
