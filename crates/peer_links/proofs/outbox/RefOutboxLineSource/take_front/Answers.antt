use Rattle.peer_links.proofs.QueueLaws.{all_in_turn}
use Rattle.peer_links.proofs.outbox.RefOutboxLineSource.take_front.Goals as goal

pub returns : goal.returns
returns g c = λ lines all _. all_in_turn _ c.args.count lines all
