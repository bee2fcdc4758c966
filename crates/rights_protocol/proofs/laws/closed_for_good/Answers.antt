use Rattle.rights_protocol.proofs.Runs as lemmas
use Rattle.rights_protocol.proofs.laws.closed_for_good.Goals as goal

pub returns : goal.returns
returns c = lemmas.closed_for_good
