use Rattle.std.proofs.Common.{rules}
use Rattle.rights_types.specs.Rights.{to}
use Rattle.site_core.proofs.owed.gifts_to.Goals as goal

pub returns : goal.returns
unfolding to
returns c = search rules
