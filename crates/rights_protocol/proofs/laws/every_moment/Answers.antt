use Rattle.rights_protocol.proofs.Runs as lemmas
use Rattle.rights_protocol.proofs.laws.every_moment.Goals as goal

pub returns : goal.returns
returns c = lemmas.every_moment
