use Rattle.std.proofs.Common.{rules}
use Rattle.apply_lanes.proofs.kept.Kept.view.Goals as goal

pub returns : goal.returns
returns g c = search rules
