use Rattle.peer_links.proofs.QueueLaws.{outbox_batch}
use Rattle.peer_links.proofs.outbox.RefOutboxLineSource.next_batch.Goals as goal

pub returns-clause-batch : goal.returns-clause-batch
returns-clause-batch g c = outbox_batch _ _ _ c.batch.result c.batch.new.room c.batch.ensures.batch
