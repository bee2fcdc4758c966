use Rattle.serde_json.specs.View.{view}
use Rattle.site_words.proofs.StatusLaws.{text_of}
use Rattle.site_words.proofs.status_object.status_text.Goals as goal

pub returns : goal.returns
returns c = text_of c.args.desk.now c.args.peers.now c.args.journal c.args.keys (view c.in_ok-status.field-0) _
    c.in_ok-status.ensures c.in_ok-to_string.ensures.text
