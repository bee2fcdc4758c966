use Rattle.site_node.proofs.RepeatLaws.{replies_are_those}
use Rattle.site_node.proofs.laws.replies_are_those_of_the_entry.Goals as goal

pub returns : goal.returns
returns c = replies_are_those
