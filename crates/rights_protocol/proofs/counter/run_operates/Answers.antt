use Rattle.rights_protocol.proofs.CounterEvery as lemmas
use Rattle.rights_protocol.proofs.counter.run_operates.Goals as goal

pub returns : goal.returns
returns c = lemmas.run_operates
