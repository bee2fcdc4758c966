use Rattle.std.proofs.Common.{◌≤◌}
use Rattle.transfer_manager.specs.Managers.{sites}
use Rattle.parts_tests.proofs.tests.manager.answers.cases_answered.Given as goal

abbrev pub invariant-loop-place : goal.invariant-loop-place
invariant-loop-place l = 3 ≤ sites l.manager
