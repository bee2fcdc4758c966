use Rattle.rights_protocol.proofs.Runs as lemmas
use Rattle.rights_protocol.proofs.laws.applied_for_good.Goals as goal

pub returns : goal.returns
returns c = lemmas.applied_for_good
