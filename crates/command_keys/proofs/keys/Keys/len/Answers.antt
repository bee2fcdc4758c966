use Rattle.std.proofs.Common.{subst}
use Rattle.command_keys.specs.Keys.{IsOnce}
use Rattle.command_keys.proofs.keys.Keys.len.Goals as goal

pub returns-clause-once : goal.returns-clause-once
returns-clause-once g c = subst IsOnce c.self.view_is c.self.invariant.once
