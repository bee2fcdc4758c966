use Rattle.sub_buffer.proofs.Offers.{pop_chain, pop_follows, pop_fewer}
use Rattle.sub_buffer.proofs.buffer.SubBuffer.pop_ready.Goals as goal

pub returns-clause-chain : goal.returns-clause-chain
returns-clause-chain g c = pop_chain c.args.self.now c.pop_next.new.self c.pop_next.result c.pop_next.ensures.valid
    c.pop_next.ensures.entry c.pop_next.ensures.table

pub returns-clause-follows : goal.returns-clause-follows
returns-clause-follows g c
    = pop_follows c.args.self.now c.pop_next.new.self c.pop_next.result c.pop_next.ensures.valid
    c.pop_next.ensures.table

pub returns-clause-fewer : goal.returns-clause-fewer
returns-clause-fewer g c = pop_fewer c.args.self.now c.pop_next.new.self c.pop_next.result c.pop_next.ensures.entry
    c.pop_next.ensures.table
