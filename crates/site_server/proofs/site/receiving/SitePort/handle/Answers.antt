use Rattle.site_server.proofs.site.receiving.SitePort.handle.Goals as goal

pub returns : goal.returns
returns g c =
    let t = c.take.ensures in
    record { old = t.old; new = t.new; one = t.one; valid = t.before; handles = t.does }
