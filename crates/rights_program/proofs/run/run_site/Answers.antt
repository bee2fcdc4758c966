use Rattle.std.proofs.Common.{refl}
use Rattle.rights_program.proofs.run.run_site.Goals as goal

pub returns : goal.returns
returns g c = record {
  input = _;
  output = _;
  given = (refl, refl);
  left = _;
  called = c.run.ensures;
  leaves = (refl, refl);
}
