use Rattle.desk_turns.proofs.KeyTurnLaws.{all_work}
use Rattle.desk_turns.proofs.laws.work_is_key_turn.Goals as goal

pub returns : goal.returns
returns c = all_work
