use Rattle.rights_protocol.proofs.CounterRuns as lemmas
use Rattle.rights_protocol.proofs.counter.own_row_only.Goals as goal

pub returns : goal.returns
returns c = lemmas.own_row
