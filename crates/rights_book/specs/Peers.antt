-- What a book knows of one site, and how it grows.
use Rattle.std.specs.Prelude.{ℕ, ◌+◌, ◌==◌, List, if◌then◌else◌}
use Rattle.rights_types.specs.Moves.{gift_to, take_back_from}
use Rattle.rights_types.specs.Rights.{to, back}
use Rattle.rights_types.specs.declared.moves.Move.{Move}
use Rattle.rights_book.specs.declared.peer.Peer.{Peer}
use Rattle.rights_book.specs.Accounts.{no_account, with_moves}

-- a site of which nothing is known
abbrev pub no_peer : Peer
no_peer = record { log = no_account; received = 0; gifts = 0; given = 0; back = 0 }

-- site j, after one move of the book's own site
abbrev pub with_own_move : Peer → ℕ → Move → Peer
with_own_move p j m = record p { given = p.given + gift_to j m; back = p.back + take_back_from j m }

-- site j, after these moves of the book's own site
abbrev pub with_own : Peer → ℕ → List Move → Peer
with_own p j ms = record p { given = p.given + to j ms; back = p.back + back j ms }

-- site j, after a gift of site o to it; a site gives nothing to itself
abbrev pub with_gift : Peer → ℕ → ℕ → ℕ → Peer
with_gift p o j n = if j == o then p else record p { gifts = p.gifts + n }

abbrev pub with_move_gift : Peer → ℕ → ℕ → Move → Peer
with_move_gift p o j m = with_gift p o j (gift_to j m)

abbrev pub with_gifts : Peer → ℕ → ℕ → List Move → Peer
with_gifts p o j ms = with_gift p o j (to j ms)

-- site j, after these moves of site o were applied at site me
abbrev pub with_applied : ℕ → Peer → ℕ → ℕ → List Move → Peer
with_applied me p o j ms =
    if j == o then record p { log = with_moves p.log ms; received = p.received + to me ms }
    else record p { gifts = p.gifts + to j ms }
