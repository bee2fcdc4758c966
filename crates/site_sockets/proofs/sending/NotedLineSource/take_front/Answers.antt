use Rattle.site_sockets.proofs.TurnLaws.{all_in_turn}
use Rattle.site_sockets.proofs.sending.NotedLineSource.take_front.Goals as goal

pub returns : goal.returns
returns g c = λ lines all _. all_in_turn _ c.args.count lines all
