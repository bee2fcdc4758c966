use Rattle.std.proofs.Common.{arith, refl}
use Rattle.std.proofs.lemmas.List.{take_more, take_all}
use Rattle.site_server.proofs.SendLaws.{views_more}
use Rattle.site_server.proofs.site.client.peer_views.Goals as goal

pub loop-peer-preserved : goal.loop-peer-preserved
loop-peer-preserved c =
    rw (
      c.in_ok-push.ensures.items,
      take_more c.args.peers.now c.loop-peer.peer-index c.peer-item.result c.loop-peer-test.true,
      ← c.peer-item.is,
    )
    (views_more c.args.desk.now _ _ c.peer-item.result _ c.loop-peer.invariant refl c.applied.ensures.value)

pub returns : goal.returns
returns c = rw (take_all c.loop-peer.peer-index c.args.peers.now (omega (arith, c.loop-peer-test.false))) at
    c.loop-peer.invariant
