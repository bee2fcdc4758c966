use Rattle.std.proofs.Common.{ℕ, length, refl, sym, subst, arith, take}
use Rattle.peer_links.specs.Outboxes.{front_in}
use Rattle.peer_links.specs.Sources.{AreLines}
use Rattle.peer_links.proofs.QueueLaws.{batch_large}
use Rattle.peer_links.proofs.outbox.Queue.batch.Goals as goal

pub returns-then-filled-gt0-clause-batch : goal.returns-then-filled-gt0-clause-batch
returns-then-filled-gt0-clause-batch g c =
    let copy = c.copy_front-filled in
    let copied = subst (λ (n : ℕ). AreLines (front_in n c.args.self.now.lines) (take copy.result copy.new.room))
    (sym copy.ensures.same) copy.ensures.copied in
    (c.if-filled-gt0.true, omega (arith, copy.ensures.within, copy.ensures.same), copied, refl)

pub returns-in-Some-clause-batch : goal.returns-in-Some-clause-batch
returns-in-Some-clause-batch g c =
    let copy = c.copy_front-filled in
    let taken = c.in-Some.ensures in
    let large = batch_large c.args.self.now c.take.new.self copy.new.room (length c.args.room.now) copy.result
    c.in-Some.line.items taken.line taken.some copy.ensures.same copy.ensures.copied.1 c.if-filled-gt0.false in
    (taken.line, large, taken.some)
