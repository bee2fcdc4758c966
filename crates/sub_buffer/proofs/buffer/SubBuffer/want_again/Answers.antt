use Rattle.std.proofs.Common.{sym, subst}
use Rattle.sub_buffer.specs.Follows.{HasPut, Follows}
use Rattle.sub_buffer.proofs.Missing.{gap_is, follows_asked, put_asked}
use Rattle.sub_buffer.proofs.buffer.SubBuffer.want_again.Goals as goal

pub returns-clause-table : goal.returns-clause-table
returns-clause-table g c = rw c.note_asked.ensures.value (c.missing-gap.ensures, c.note_asked.ensures.asked)

pub returns-clause-gap : goal.returns-clause-gap
returns-clause-gap g c = rw c.note_asked.ensures.value
    (gap_is c.args.self.now c.missing-gap.result c.missing-gap.ensures)

pub returns-clause-chain : goal.returns-clause-chain
returns-clause-chain g c = λ put d. subst (HasPut put) (sym c.note_asked.ensures.asked)
    (put_asked c.args.self.now c.missing-gap.result put d)

pub returns-clause-follows : goal.returns-clause-follows
returns-clause-follows g c
    = λ es set put f. subst (Follows es set put) (sym c.note_asked.ensures.asked)
    (follows_asked c.args.self.now c.missing-gap.result es set put f)
