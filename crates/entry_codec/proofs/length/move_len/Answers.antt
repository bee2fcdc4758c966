use Rattle.std.proofs.Common.{length, ap, sym, ◌∙◌}
use Rattle.entry_codec.proofs.Behind.{frontier_text_is}
use Rattle.entry_codec.proofs.length.move_len.Goals as goal

pub returns-in-CloseAt-clause-value : goal.returns-in-CloseAt-clause-value
returns-in-CloseAt-clause-value c
    = rw c.in-CloseAt.is (c.frontier_len.ensures.value ∙ ap length (sym (frontier_text_is c.in-CloseAt.frontier)))
