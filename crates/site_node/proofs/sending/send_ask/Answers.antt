use Rattle.site_node.proofs.Lines.{line_sent}
use Rattle.site_node.proofs.sending.send_ask.Goals as goal

pub offer-requires : goal.offer-requires
offer-requires g c = line_sent (λ l. l.items) _ _ c.in-Some.line c.in-Some.is c.in_ok-line.ensures.line
