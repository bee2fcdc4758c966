use Rattle.site_node.proofs.RememberLaws.{last_writes}
use Rattle.site_node.proofs.laws.last_writes_are_remembered.Goals as goal

pub returns : goal.returns
returns c = last_writes
