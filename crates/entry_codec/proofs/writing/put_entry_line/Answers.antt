use Rattle.std.proofs.Common.{◌∷◌, [], ◌++◌, ℕ, List, ap, sym, ◌∙◌, arith}
use Rattle.entry_codec.proofs.Behind.{entry_line_is}
use Rattle.entry_codec.proofs.Room.{entry_room}
use Rattle.entry_codec.proofs.writing.put_entry_line.Goals as goal

pub put_entry_of-at-requires-clause-room : goal.put_entry_of-at-requires-clause-room
put_entry_of-at-requires-clause-room c =
    omega (arith, entry_room _ c.requires.valid, c.requires.room)

pub put_byte-requires : goal.put_byte-requires
put_byte-requires c =
    omega (
      arith,
      entry_room _ c.requires.valid,
      c.requires.room,
      c.put_entry_of-at.ensures.end,
      c.put_entry_of-at.auto.buffer,
    )

pub returns-clause-text : goal.returns-clause-text
returns-clause-text c =
    c.put_byte.ensures.text ∙ ap (λ (t : List ℕ). t ++ 10 ∷ []) c.put_entry_of-at.ensures.text ∙ sym (entry_line_is _)

pub returns-clause-fits : goal.returns-clause-fits
returns-clause-fits c =
    omega (arith, entry_room _ c.requires.valid, c.put_entry_of-at.ensures.end, c.put_byte.ensures.end)
