use Rattle.site_node.proofs.OutliveLaws.{keys_outlive_crashes}
use Rattle.site_node.proofs.laws.keys_outlive_crashes.Goals as goal

pub returns : goal.returns
returns c = keys_outlive_crashes
