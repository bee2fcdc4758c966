use Rattle.rights_protocol.proofs.CounterSteps as lemmas
use Rattle.rights_protocol.proofs.counter.step_operates.Goals as goal

pub returns : goal.returns
returns c = lemmas.step_operates
