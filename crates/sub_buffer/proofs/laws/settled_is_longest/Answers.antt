use Rattle.sub_buffer.proofs.Offers.{settled_longest, longest_settled}
use Rattle.sub_buffer.proofs.laws.settled_is_longest.Goals as goal

pub returns : goal.returns
returns c = λ b es set put f. (settled_longest b es set put f, longest_settled b es set put f)
