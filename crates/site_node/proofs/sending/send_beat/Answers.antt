use Rattle.entry_codec.proofs.Lines.{is_line}
use Rattle.site_core.specs.Calls.{beat_of}
use Rattle.site_node.proofs.sending.send_beat.Goals as goal

pub offer-requires : goal.offer-requires
offer-requires g c = is_line (beat_of c.args.kept.now.desk.ledger.log) c.in_ok-line.line.items c.in_ok-line.ensures
