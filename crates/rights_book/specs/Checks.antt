-- Why a book refuses moves of its own site.
use Rattle.std.specs.Prelude.{ℕ, Bool, false, not, nat_lt, List, Option, Some, None, if◌then◌else◌}
use Rattle.std.specs.List.{list_any}
use Rattle.rights_types.specs.Moves.{peer_of, names}
use Rattle.rights_types.specs.Rights.{covers}
use Rattle.rights_types.specs.declared.moves.Move.{Move}
use Rattle.rights_types.specs.declared.moves.Move.TheVariants.{Grant, Give}
use Rattle.rights_book.specs.Books.{BookValue, account, sites, held_by}
use Rattle.rights_book.specs.declared.fault.BookError.{BookError}
use Rattle.rights_book.specs.declared.fault.BookError.TheVariants.{NoSuchSite, SameSite, PeerClosed, Short}

abbrev pub is_above : ℕ → Option ℕ → Bool
is_above n None = false
is_above n (Some j) = nat_lt n j

-- the move names a site above n
abbrev pub names_above : ℕ → Move → Bool
names_above n m = is_above n (peer_of m)

-- the site that a move gives to
abbrev pub receiver_of : Move → Option ℕ
receiver_of (Grant j n a) = Some j
receiver_of (Give j n) = Some j
receiver_of m = None

abbrev pub is_closed_site : BookValue → Option ℕ → Bool
is_closed_site b None = false
is_closed_site b (Some j) = (account b j).closed

-- the move gives to a site that is known to have closed
abbrev pub gives_to_closed : BookValue → Move → Bool
gives_to_closed b m = is_closed_site b (receiver_of m)

-- the first cause for which these moves are refused
unfoldable pub check_fault : BookValue → List Move → Option BookError
check_fault b ms =
    if list_any (names_above (sites b)) ms then Some NoSuchSite
    else (if list_any (names b.me) ms then Some SameSite
    else (if list_any (gives_to_closed b) ms then Some PeerClosed
    else (if not (covers (held_by b) ms) then Some Short
    else None)))
