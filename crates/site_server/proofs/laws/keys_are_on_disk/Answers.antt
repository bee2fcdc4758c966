use Rattle.site_server.proofs.DiskLaws.{keys_are_on_disk}
use Rattle.site_server.proofs.laws.keys_are_on_disk.Goals as goal

pub returns : goal.returns
returns c = keys_are_on_disk
