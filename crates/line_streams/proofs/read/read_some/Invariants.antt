use Rattle.std.proofs.Common.{◌≡◌, length}
use Rattle.std.specs.Io.KnownBytes.{Keeps}
use Rattle.line_streams.proofs.read.read_some.Given as goal

abbrev pub invariant-tries : goal.invariant-tries
invariant-tries g l = (length l.room ≡ length l.fn.room)
    × Keeps (g.R.Read.remaining l.fn.reader) (g.R.Read.remaining l.reader)
