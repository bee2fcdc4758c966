use Rattle.std.proofs.Common.{◌∷◌, [], ◌++◌, ℕ, List, sym, ap, ◌∙◌, arith}
use Rattle.std.proofs.lemmas.List.{take_all}
use Rattle.entry_codec.proofs.writing.fill_with_line.Goals as goal

pub put_entry-at-requires : goal.put_entry-at-requires
put_entry-at-requires g c = omega (arith, c.requires)

pub put_byte-requires : goal.put_byte-requires
put_byte-requires g c = omega (arith, c.put_entry-at.ensures.end, c.requires, c.put_entry-at.auto.buffer)

pub returns : goal.returns
returns g c =
    sym (take_all c.put_byte.result c.put_byte.new.buffer
    (omega (
      arith,
      c.put_byte.ensures.end,
      c.put_entry-at.ensures.end,
      c.requires,
      c.put_entry-at.auto.buffer,
      c.put_byte.auto.buffer,
    )))
    ∙ c.put_byte.ensures.text ∙ ap (λ (t : List ℕ). t ++ 10 ∷ []) c.put_entry-at.ensures.text
