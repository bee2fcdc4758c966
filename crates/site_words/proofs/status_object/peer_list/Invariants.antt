use Rattle.std.proofs.Common.{◌≡◌, map, take}
use Rattle.serde_json.specs.View.{view}
use Rattle.site_words.specs.Status.{peer_data}
use Rattle.site_words.proofs.status_object.peer_list.Given as goal

abbrev pub invariant-loop-peer : goal.invariant-loop-peer
invariant-loop-peer l = map view l.list.items ≡ map peer_data (take l.peer-index l.peers)
