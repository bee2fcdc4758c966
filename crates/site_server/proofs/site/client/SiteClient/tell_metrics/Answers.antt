use Rattle.site_server.proofs.SendLaws.{tells_metrics}
use Rattle.site_server.proofs.site.client.SiteClient.tell_metrics.Goals as goal

pub returns : goal.returns
returns g c =
    tells_metrics g.D.DeskNames.id c.in_ok-metrics.metrics c.in_ok-metrics.peers.items c.as_slice.result.now
    c.args.replies.now c.put_metrics.new.replies c.put_metrics.result c.in_ok-metrics.ensures
    c.as_slice.ensures.value c.put_metrics.ensures.ok
