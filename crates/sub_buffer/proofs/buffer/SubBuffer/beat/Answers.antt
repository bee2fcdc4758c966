use Rattle.std.proofs.Common.{sym, subst}
use Rattle.sub_buffer.specs.Follows.{Follows}
use Rattle.sub_buffer.proofs.Offers.{follows_told}
use Rattle.sub_buffer.proofs.buffer.SubBuffer.beat.Goals as goal

pub returns-then-not-self-clause-follows : goal.returns-then-not-self-clause-follows
returns-then-not-self-clause-follows g c
    = λ es set put f. subst (Follows es set put) (sym c.hear.ensures)
    (follows_told es set put c.args.self.now c.args.number f)
