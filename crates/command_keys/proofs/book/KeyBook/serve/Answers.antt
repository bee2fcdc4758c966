use Rattle.std.proofs.Common.{arith, ◌∙◌, sym}
use Rattle.command_keys.proofs.Gone.{served_fewer}
use Rattle.command_keys.proofs.book.KeyBook.serve.Goals as goal

pub record-requires : goal.record-requires
record-requires g c =
    let fewer = served_fewer c.self.inside.keys c.serve.new.self c.args.ticket c.args.number c.args.amount c.in-Some.key
    (sym c.in-Some.is ∙ c.key_of.ensures) c.serve.ensures in
    omega (arith, fewer, c.self.invariant)
