use Rattle.std.proofs.Common.{sym, ◌∙◌, arith}
use Rattle.std.proofs.lemmas.List.{take_all, take-append-le}
use Rattle.entry_codec.proofs.answer.add_entry.Goals as goal

pub returns-else-len-lt-MAX_ANSWER : goal.returns-else-len-lt-MAX_ANSWER
returns-else-len-lt-MAX_ANSWER g c = λ few.
    let items = c.args.entries.now.items in
    sym (take-append-le 16 items _ (omega (arith, c.if-len-lt-MAX_ANSWER.false, c.len.ensures, c.args.entries.now.ok.0))
    ∙ take_all 16 items few)
