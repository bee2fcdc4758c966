use Rattle.std.proofs.Common.{◌≡◌, ℕ, drop}
use Rattle.rights_types.specs.Places.{at_site}
use Rattle.rights_book.specs.Peers.{no_peer, with_own}
use Rattle.rights_book.proofs.peer.add_own.Given as goal

abbrev pub invariant-loop-m : goal.invariant-loop-m
invariant-loop-m l =
    (j : ℕ) → with_own (at_site l.peers j no_peer) j (drop l.m-index l.moves)
    ≡ with_own (at_site l.initial.peers j no_peer) j l.moves
