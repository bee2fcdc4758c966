use Rattle.rights_protocol.proofs.CounterRuns as lemmas
use Rattle.rights_protocol.proofs.counter.counter_is_safe.Goals as goal

pub returns : goal.returns
returns c = lemmas.counter_is_safe
