use Rattle.link_intake.proofs.IntakeLaws.{open_before_end}
use Rattle.link_intake.proofs.intake.Intake.finish.Goals as goal

pub end-requires : goal.end-requires
end-requires g c = open_before_end _ c.self.invariant c.if-not-self.true
