use Rattle.command_keys.proofs.CallLaws.{all_are_last}
use Rattle.command_keys.proofs.laws.last_are_remembered.Goals as goal

pub returns : goal.returns
returns c = all_are_last
