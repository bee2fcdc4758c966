use Rattle.std.proofs.Common.{◌==◌, ◌+◌, ◌∙◌, List, ℕ, sym, ap, arith}
use Rattle.std.specs.List.{count_by}
use Rattle.std.proofs.lemmas.List.{take_all}
use Rattle.std.proofs.lemmas.List.Splits.{length-slice_split}
use Rattle.transfer_world.proofs.script.commands.count_words.Goals as goal

pub returns : goal.returns
returns c =
    let text : List ℕ = c.args.text.now in
    c.loop-byte.invariant ∙ ap (λ (l : List ℕ). count_by (λ b. b == 32) l + 1)
    (take_all c.loop-byte.byte-index text (omega arith)) ∙ sym (length-slice_split (λ b. b == 32) text)
