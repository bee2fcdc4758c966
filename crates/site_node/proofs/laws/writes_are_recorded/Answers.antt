use Rattle.site_node.proofs.RememberLaws.{writes_are_recorded}
use Rattle.site_node.proofs.laws.writes_are_recorded.Goals as goal

pub returns : goal.returns
returns c = writes_are_recorded
