use Rattle.std.proofs.Common.{refl}
use Rattle.link_intake.proofs.IntakeLaws.{new_intake}
use Rattle.link_intake.proofs.LineLaws.{receives_new}
use Rattle.link_intake.proofs.intake.Intake.new.Goals as goal

pub invariant_of-result : goal.invariant_of-result
invariant_of-result g c = new_intake _ c.requires.inbound c.requires.inlet.0 refl

pub returns-clause-log : goal.returns-clause-log
returns-clause-log g c es follows = receives_new es _ follows c.requires.inlet.0 refl
