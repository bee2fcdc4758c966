use Rattle.std.proofs.Common.{arith, ap}
use Rattle.line_streams.specs.Waiting.{Waiting}
use Rattle.line_streams.proofs.replies.Replies.put_field.Goals as goal

pub returns-clause-left : goal.returns-clause-left
returns-clause-left g c =
    omega (
      arith,
      ap (λ (w : Waiting). w.room) c.self.view_is,
      c.in_ok-make_room.ensures.longer,
      c.put_field-self-inside.ensures.short,
      c.put_field-self-inside.ensures.room,
    )
