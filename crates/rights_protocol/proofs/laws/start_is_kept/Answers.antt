use Rattle.rights_protocol.proofs.Steps as lemmas
use Rattle.rights_protocol.proofs.laws.start_is_kept.Goals as goal

pub returns : goal.returns
returns c = lemmas.start_kept
