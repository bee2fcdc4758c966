use Rattle.site_server.proofs.DiskLaws.{told_is_not_lost}
use Rattle.site_server.proofs.laws.told_is_not_lost.Goals as goal

pub returns : goal.returns
returns c = told_is_not_lost
