use Rattle.std.proofs.Common.{◌≡◌, ℕ, ◌+◌, ◌*◌, ◌≤◌, length, drop}
use Rattle.rights_types.specs.Places.{at_site}
use Rattle.rights_book.specs.Peers.{no_peer, with_gifts}
use Rattle.rights_book.proofs.peer.add_gifts.Given as goal

abbrev pub invariant-loop-m : goal.invariant-loop-m
invariant-loop-m l = record {
  each : (j : ℕ) → 1 ≤ j → j ≤ length l.initial.peers
      → with_gifts (at_site l.peers j no_peer) l.origin j (drop l.m-index l.moves)
      ≡ with_gifts (at_site l.initial.peers j no_peer) l.origin j l.moves;
  few : (j : ℕ) → 1 ≤ j → j ≤ length l.initial.peers
      → (at_site l.peers j no_peer).gifts ≤ 15000000000000000000 + l.m-index * 1000000000;
}
