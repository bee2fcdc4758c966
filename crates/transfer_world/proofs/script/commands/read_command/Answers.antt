use Rattle.std.proofs.Common.{sym}
use Rattle.transfer_world.proofs.CommandLaws.{short_line, long_line}
use Rattle.transfer_world.proofs.script.commands.read_command.Goals as goal

pub returns-in-Some-clause-means : goal.returns-in-Some-clause-means
returns-in-Some-clause-means g c = λ line given.
    let parts = rw (c.in-Some.is) at given in
    rw (short_line line c.in-Some.text.now parts.0 parts.1) c.parse_line.ensures.means

pub returns-in-None-clause-means : goal.returns-in-None-clause-means
returns-in-None-clause-means g c = λ line given. sym (long_line line (rw (c.in-None.is) at given))
