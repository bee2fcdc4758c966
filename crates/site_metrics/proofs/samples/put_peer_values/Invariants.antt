use Rattle.std.proofs.Common.{◌≡◌, ◌≤◌, ◌+◌, ◌*◌, ◌∷◌, ◌++◌, take}
use Rattle.std.specs.List.{flat_map}
use Rattle.site_metrics.specs.Format.{sample_line}
use Rattle.site_metrics.specs.Table.{peer_sample}
use Rattle.site_metrics.specs.PeerValues.{peer_value}
use Rattle.site_metrics.proofs.samples.put_peer_values.Given as goal

abbrev pub invariant-loop-peer : goal.invariant-loop-peer
invariant-loop-peer g l = record {
  text : l.replies.part ≡ l.initial.replies.part
      ++ flat_map (λ p. 10 ∷ sample_line l.name (peer_sample (peer_value l.value) p)) (take l.peer-index l.peers);
  room : l.initial.replies.room ≤ l.replies.room + 96 * l.peer-index;
  kept : l.replies.whole ≡ l.fn.replies.whole;
}
