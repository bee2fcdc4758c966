use Rattle.std.proofs.Common.{sym, subst}
use Rattle.sub_buffer.specs.Buffers.{IsSettled}
use Rattle.parts_tests.proofs.tests.buffer.steps.arrives.Goals as goal

pub arrive-requires-clause-settled : goal.arrive-requires-clause-settled
arrive-requires-clause-settled g c = subst IsSettled (sym c.in-None.ensures.table.1) c.in-None.ensures.table.0
