use Rattle.std.proofs.Common.{◌≡◌, replicate}
use Rattle.rights_book.specs.Peers.{no_peer}
use Rattle.rights_book.proofs.book.Book.new.Given as goal

abbrev pub invariant-loop-site : goal.invariant-loop-site
invariant-loop-site g l = l.peers.items ≡ replicate l._site no_peer
