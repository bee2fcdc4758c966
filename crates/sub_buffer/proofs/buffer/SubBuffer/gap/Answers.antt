use Rattle.sub_buffer.proofs.Missing.{gap_is}
use Rattle.sub_buffer.proofs.buffer.SubBuffer.gap.Goals as goal

pub returns-clause-gap : goal.returns-clause-gap
returns-clause-gap g c = gap_is c.args.self.now c.missing.result c.missing.ensures
