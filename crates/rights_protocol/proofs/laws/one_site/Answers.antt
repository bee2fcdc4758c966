use Rattle.rights_protocol.proofs.OneSite as lemmas
use Rattle.rights_protocol.proofs.laws.one_site.Goals as goal

pub returns : goal.returns
returns c = lemmas.one_site
