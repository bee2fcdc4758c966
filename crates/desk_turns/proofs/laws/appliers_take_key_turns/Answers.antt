use Rattle.desk_turns.proofs.KeyTurnLaws.{applying}
use Rattle.desk_turns.proofs.laws.appliers_take_key_turns.Goals as goal

pub returns : goal.returns
returns g c = applying
