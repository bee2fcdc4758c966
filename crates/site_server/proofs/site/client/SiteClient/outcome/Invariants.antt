use Rattle.std.proofs.Common.{◌≡◌}
use Rattle.site_server.specs.Settling.{HasWaited}
use Rattle.site_server.proofs.site.client.SiteClient.outcome.Given as goal

abbrev pub invariant-ticks : goal.invariant-ticks
invariant-ticks g l =
    (goal.iterator-ticks g).can_next l.iterator' × (goal.iterator-ticks g).is_finite l.iterator'
    × (l.self ≡ record l.initial.self { seat = l.self.seat })
    × HasWaited g.D.DeskNames.id l.initial.self.seat l.initial.ticket l.self.seat
