use Rattle.std.proofs.Common.{sym, subst}
use Rattle.sub_buffer.specs.Follows.{HasPut, Follows}
use Rattle.sub_buffer.proofs.Missing.{gap_is, follows_asked, put_asked}
use Rattle.sub_buffer.proofs.buffer.SubBuffer.want.Goals as goal

pub returns-clause-table : goal.returns-clause-table
returns-clause-table g c = let w
    = c.wanted-gap.ensures in rw c.note_asked.ensures.value (w.0, w.1, w.2, c.note_asked.ensures.asked)

pub returns-clause-gap : goal.returns-clause-gap
returns-clause-gap g c =
    let w = c.wanted-gap.ensures in
    rw c.note_asked.ensures.value (λ es set put f long. (w.0, gap_is c.args.self.now w.0 w.1 es set put f long, w.2))

pub returns-clause-chain : goal.returns-clause-chain
returns-clause-chain g c = λ put d. subst (HasPut put) (sym c.note_asked.ensures.asked)
    (put_asked c.args.self.now c.wanted-gap.result put d)

pub returns-clause-follows : goal.returns-clause-follows
returns-clause-follows g c
    = λ es set put f. subst (Follows es set put) (sym c.note_asked.ensures.asked)
    (follows_asked c.args.self.now c.wanted-gap.result es set put f)
