use Rattle.site_server.proofs.SendLaws.{tells_status}
use Rattle.site_server.proofs.site.client.SiteClient.tell_status.Goals as goal

pub returns-clause-ok : goal.returns-clause-ok
returns-clause-ok g c =
    tells_status g.D.DeskNames.id c.in_ok-desk.desk c.in_ok-desk.peers.items c.as_slice.result.now
    c.journal_view-journal.result c.in_ok-desk.keys c.args.replies.now c.add_status.new.replies c.add_status.result c.in_ok-desk.ensures
    c.journal_view-journal.ensures.values c.as_slice.ensures.value c.add_status.ensures.ok
