use Rattle.rights_types.specs.Messages.MessageValue.{AnAnswer}
use Rattle.entry_codec.proofs.Lines.{is_line}
use Rattle.origin_log.specs.Answering.{answer_to_query}
use Rattle.site_node.proofs.messages.answer_query.Goals as goal

pub offer-requires : goal.offer-requires
offer-requires g c = is_line (AnAnswer (answer_to_query c.args.query.now c.args.kept.now.desk.ledger.log))
    c.in-Ok.line.items c.in-Ok.ensures.ok
