use Rattle.std.proofs.Common.{sym, subst}
use Rattle.sub_buffer.specs.Buffers.{IsSettled}
use Rattle.parts_tests.proofs.tests.buffer.steps.answers.Goals as goal

pub arrive_all-requires-clause-settled : goal.arrive_all-requires-clause-settled
arrive_all-requires-clause-settled g c = subst IsSettled (sym c.in-None.ensures.table.1) c.in-None.ensures.table.0
