use Rattle.std.proofs.Common.{refl}
use Rattle.rights_types.specs.Rights.{issued, spent, to, back}
use Rattle.rights_protocol.proofs.counter.small_counter.Goals as goal

pub returns : goal.returns
unfolding issued spent to back
returns c = record { first = refl; second = refl; counts = refl }
