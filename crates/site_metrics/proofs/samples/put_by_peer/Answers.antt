use Rattle.std.proofs.Common.{◌++◌, ap, ◌∙◌}
use Rattle.std.proofs.lemmas.Result.{on_ok_weaker}
use Rattle.site_metrics.specs.Format.{Family, led_lines}
use Rattle.site_metrics.specs.PeerValues.{peer_value}
use Rattle.site_metrics.specs.Table.{kind_word}
use Rattle.site_metrics.proofs.TextLaws.{put_peers, is_peer_metric}
use Rattle.site_metrics.proofs.samples.put_by_peer.Goals as goal

pub returns-clause-ok : goal.returns-clause-ok
returns-clause-ok g c =
    let is = is_peer_metric c.args.value c.args.peers.now c.name-name.result.now c.help.result.now
    (kind_word c.kind.result) c.name-name.ensures.name c.help.ensures.help c.kind.ensures in
    let text = c.args.replies.now.part in
    let put = put_peers c.name-name.result.now c.help.result.now (kind_word c.kind.result) text
    (peer_value c.args.value) c.args.peers.now in
    on_ok_weaker c.put_peer_values.result (λ last. last
    ∙ rw c.in_ok-put_led_head.ensures.ok (put ∙ ap (λ (f : Family). text ++ led_lines f) is))
    c.put_peer_values.ensures.ok
