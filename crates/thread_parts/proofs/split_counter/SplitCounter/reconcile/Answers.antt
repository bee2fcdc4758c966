use Rattle.std.proofs.Common.{rules}
use Rattle.thread_parts.proofs.split_counter.SplitCounter.reconcile.Goals as goal

pub returns-clause-whole : goal.returns-clause-whole
returns-clause-whole g c = search rules
