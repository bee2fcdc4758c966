-- The value of a peer that a metric reports, as a number.
use Rattle.std.specs.Prelude.{ℕ}
use Rattle.site_metrics.specs.declared.metrics.PeerMetrics.{PeerMetrics}
use Rattle.site_metrics.specs.declared.peer_value.PeerValue.{PeerValue}
use Rattle.site_metrics.specs.declared.peer_value.PeerValue.TheVariants.{Applied, Buffering, Held, Receiving, Sending, Silent}
use Rattle.site_metrics.specs.declared.peer_value.PeerValue.TheVariants.{Lines, Refused, Dropped, Waiting, WentBack}
use Rattle.site_metrics.specs.Table.{bit}

abbrev pub peer_value : PeerValue → PeerMetrics → ℕ
peer_value Applied peer = peer.applied
peer_value Buffering peer = bit peer.buffering
peer_value Held peer = peer.held
peer_value Receiving peer = bit peer.receiving
peer_value Sending peer = bit peer.sending
peer_value Silent peer = peer.silent
peer_value Lines peer = peer.lines
peer_value Refused peer = peer.refused
peer_value Dropped peer = peer.dropped
peer_value Waiting peer = peer.waiting
peer_value WentBack peer = peer.went_back
