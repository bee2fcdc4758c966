use Rattle.rights_protocol.proofs.Promises as lemmas
use Rattle.rights_protocol.proofs.laws.kept_promises.Goals as goal

pub returns : goal.returns
returns c = lemmas.kept_promises
