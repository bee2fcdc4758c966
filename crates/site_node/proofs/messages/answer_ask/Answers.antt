use Rattle.std.proofs.Common.{ℕ, List, ◌∙◌, subst, sym}
use Rattle.entry_codec.specs.Pieces.{IsLine}
use Rattle.site_node.proofs.Lines.{line_sent}
use Rattle.site_node.proofs.messages.answer_ask.Goals as goal

pub offer-requires : goal.offer-requires
offer-requires g c =
    let sent : IsLine c.in-Some.line
    = line_sent (λ (l : List ℕ). l) _ _ c.in-Some.line c.in-Some.is c.in_ok-reply.ensures.line in
    subst (λ (l : List ℕ). IsLine l) (sym (c.into_bytes.ensures ∙ c.in-Some.line-is)) sent
