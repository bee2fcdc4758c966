use Rattle.std.proofs.Common.{sym, subst}
use Rattle.link_intake.specs.Intakes.{Receives}
use Rattle.link_intake.proofs.LineLaws.{receives_asked}
use Rattle.link_intake.proofs.intake.Intake.query_with_line.Goals as goal

pub returns-clause-log : goal.returns-clause-log
returns-clause-log g c es reached h =
    let query = c.query_with_line.ensures in
    let receives = subst (Receives es reached) (sym c.self.view_is) h in
    receives_asked es reached _ c.args.again query.0 _ query.1 receives
