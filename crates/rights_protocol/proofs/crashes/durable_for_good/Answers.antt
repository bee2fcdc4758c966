use Rattle.rights_protocol.proofs.Journals as lemmas
use Rattle.rights_protocol.proofs.crashes.durable_for_good.Goals as goal

pub returns : goal.returns
returns c = lemmas.durable_for_good
