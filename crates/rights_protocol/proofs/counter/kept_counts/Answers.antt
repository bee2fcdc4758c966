use Rattle.rights_protocol.proofs.CounterLists as lemmas
use Rattle.rights_protocol.proofs.counter.kept_counts.Goals as goal

pub returns : goal.returns
returns c = lemmas.kept_counts
