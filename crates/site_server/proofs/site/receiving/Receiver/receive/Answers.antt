use Rattle.std.proofs.Common.{[], refl}
use Rattle.site_server.proofs.site.receiving.Receiver.receive.Goals as goal

pub read_link-requires-clause-cutter : goal.read_link-requires-clause-cutter
read_link-requires-clause-cutter g c =
    ([], ([], c.args.connection.empty, rw c.args.connection.empty refl, rw c.args.connection.empty refl))
