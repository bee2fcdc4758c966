use Rattle.std.proofs.Common.{◌≡◌, ◌∷◌, [], ◌++◌, ℕ, List, length, sym, ap, ◌∙◌, arith}
use Rattle.std.proofs.lemmas.List.{take_at}
use Rattle.entry_codec.proofs.Behind.{entry_text_is}
use Rattle.entry_codec.proofs.writing.write_entry.Goals as goal

pub fill_with_line-requires : goal.fill_with_line-requires
fill_with_line-requires g c
    = omega (arith, c.as_mut_slice.ensures.len, c.in_ok-resize.ensures.len, c.entry_len.ensures.value)

pub returns : goal.returns
returns g c =
    let same : length c.fill_with_line.new.buffer ≡ c.resize.new.self.len
    = omega (arith, c.fill_with_line.auto.buffer, c.as_mut_slice.ensures.len) in
    let text = take_at c.fill_with_line.new.buffer _ c.resize.new.self.len same ∙ c.fill_with_line.ensures
    ∙ ap (λ (t : List ℕ). t ++ 10 ∷ []) (sym (entry_text_is c.args.entry.now)) in
    (c.entry_len.ensures.valid, text)
