use Rattle.std.proofs.Common.{◌+◌, ◌≤◌, ℕ, List, ◌++◌, length, take, ap, sym, subst, ◌∙◌}
use Rattle.entry_codec.specs.Spelling.{move_text}
use Rattle.entry_codec.proofs.Behind.{frontier_text_is}
use Rattle.entry_codec.proofs.writing.put_move.Goals as goal

pub put_frontier-requires : goal.put_frontier-requires
put_frontier-requires c = subst (λ (t : List ℕ). c.args.at + length t ≤ length c.args.buffer.now)
    (ap move_text c.in-CloseAt.is ∙ frontier_text_is c.in-CloseAt.frontier) c.requires

pub returns-in-CloseAt-clause-end : goal.returns-in-CloseAt-clause-end
returns-in-CloseAt-clause-end c = c.put_frontier.ensures.end
    ∙ ap (λ (t : List ℕ). c.args.at + length t) (sym (ap move_text c.in-CloseAt.is
    ∙ frontier_text_is c.in-CloseAt.frontier))

pub returns-in-CloseAt-clause-text : goal.returns-in-CloseAt-clause-text
returns-in-CloseAt-clause-text c =
    c.put_frontier.ensures.text
    ∙ ap (λ (t : List ℕ). take c.args.at c.args.buffer.now ++ t) (sym (ap move_text c.in-CloseAt.is
    ∙ frontier_text_is c.in-CloseAt.frontier))
