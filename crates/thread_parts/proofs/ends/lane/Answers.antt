use Rattle.std.proofs.Common.{subst, sym}
use Rattle.thread_parts.specs.Items.{IsItemChain, Continues}
use Rattle.thread_parts.proofs.Items.{empty_chain, begins_chain}
use Rattle.thread_parts.proofs.ends.lane.Goals as goal

pub invariant_of-inlet : goal.invariant_of-inlet
invariant_of-inlet g c = subst IsItemChain (sym c.in_ok-producer.ensures.producer.0) empty_chain

pub invariant_of-outlet : goal.invariant_of-outlet
invariant_of-outlet g c = subst IsItemChain (sym c.in_ok-producer.ensures.consumer.0) empty_chain

pub returns-clause-first : goal.returns-clause-first
returns-clause-first g c e first =
    subst (λ l. Continues l e) (sym c.in_ok-producer.ensures.producer.0) (begins_chain e first)
