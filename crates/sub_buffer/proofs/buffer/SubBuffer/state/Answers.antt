use Rattle.std.proofs.Common.{sym, ◌∙◌}
use Rattle.sub_buffer.proofs.Keeps.{buffering, normal}
use Rattle.sub_buffer.proofs.Missing.{gap_is}
use Rattle.sub_buffer.proofs.buffer.SubBuffer.state.Goals as goal

pub returns-then-is_some-clause-table : goal.returns-then-is_some-clause-table
returns-then-is_some-clause-table g c
    = (c.missing.result, c.missing.ensures, buffering c.missing.result (sym c.is_some.ensures ∙ c.if-is_some.true))

pub returns-then-is_some-clause-gap : goal.returns-then-is_some-clause-gap
returns-then-is_some-clause-gap g c = λ es set put f long. (
  c.missing.result,
  gap_is c.args.self.now c.missing.result c.missing.ensures es set put f long,
  buffering c.missing.result (sym c.is_some.ensures ∙ c.if-is_some.true),
)

pub returns-else-is_some-clause-table : goal.returns-else-is_some-clause-table
returns-else-is_some-clause-table g c
    = (c.missing.result, c.missing.ensures, normal c.missing.result (sym c.is_some.ensures ∙ c.if-is_some.false))

pub returns-else-is_some-clause-gap : goal.returns-else-is_some-clause-gap
returns-else-is_some-clause-gap g c = λ es set put f long. (
  c.missing.result,
  gap_is c.args.self.now c.missing.result c.missing.ensures es set put f long,
  normal c.missing.result (sym c.is_some.ensures ∙ c.if-is_some.false),
)
