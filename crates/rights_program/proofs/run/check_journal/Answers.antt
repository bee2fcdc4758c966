use Rattle.std.proofs.Common.{refl}
use Rattle.rights_program.proofs.run.check_journal.Goals as goal

pub returns : goal.returns
returns g c = record {
  output = _;
  given = refl;
  left = _;
  called = c.check.ensures;
  leaves = refl;
}
