use Rattle.std.proofs.Common.{◌≡◌, length}
use Rattle.std.specs.Io.KnownBytes.{Keeps}
use Rattle.site_server.proofs.site.command_reader.CommandReaderRead.read.Given as goal

abbrev pub invariant-tries : goal.invariant-tries
invariant-tries g l = (length l.buf ≡ length l.fn.buf)
    × Keeps (g.I.Read.remaining l.fn.self.input) (g.I.Read.remaining l.self.input)
