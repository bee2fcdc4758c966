use Rattle.std.proofs.Common.{sym}
use Rattle.transfer_world.proofs.WordLaws.{begins_so}
use Rattle.transfer_world.proofs.script.word.behind.Goals as goal

pub returns-then-eq : goal.returns-then-eq
returns-then-eq g c =
    let parts = c.in_ok-first.ensures.cases in
    rw (begins_so _ _ c.args.begins.now _ _ parts.0 parts.1 (sym c.if-eq.ensures)) (c.requires c.in_ok-first.values.now)
