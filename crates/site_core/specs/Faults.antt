-- Why a desk refuses: the first cause in the order of each call.
use Rattle.std.specs.Prelude.{◌≡◌, ℕ, ◌+◌, ◌-◌, Bool, true, false, not, nat_lt, nat_le, ◌==◌, ◌||◌, ◌&&◌, List, [], ◌∷◌}
use Rattle.std.specs.Prelude.{length, Option, Some, None, Result, Ok, Err, if◌then◌else◌}
use Rattle.std.specs.List.{list_any}
use Rattle.rights_types.specs.declared.limits.TheConstants.{MAX_AMOUNT, MAX_MOVES, LAST_APPEND}
use Rattle.rights_types.specs.Chains.{end, is_closed}
use Rattle.rights_types.specs.declared.moves.Move.{Move}
use Rattle.rights_types.specs.declared.moves.Move.TheVariants.{Issue, Spend, Give}
use Rattle.rights_book.specs.declared.fault.BookError.{BookError}
use Rattle.rights_book.specs.declared.fault.BookError.TheVariants.{NoSuchSite as NoSite, SameSite as OwnSite}
use Rattle.rights_book.specs.declared.fault.BookError.TheVariants.{PeerClosed as Gone, Short as Lacking}
use Rattle.rights_book.specs.Books.{held_by, sites, account}
use Rattle.rights_book.specs.Checks.{check_fault}
use Rattle.request_queue.specs.declared.queue.TheConstants.{SLOTS, LAST_TICKET}
use Rattle.request_queue.specs.Queues.{used, front_of, total_of}
use Rattle.site_core.specs.declared.fault.DeskError.{DeskError}
use Rattle.site_core.specs.declared.fault.DeskError.TheVariants.{Closed, BadCount, BadMove, BadAmount, NoSuchSite}
use Rattle.site_core.specs.declared.fault.DeskError.TheVariants.{SameSite, PeerClosed, LogFull, Short, OutOfMemory}
use Rattle.site_core.specs.declared.fault.DeskError.TheVariants.{QueueFull, QueueBusy, HeldTooMuch, TimeWentBack}
use Rattle.site_core.specs.Desks.{DeskValue}

-- ---- entries that are posted

-- a move that may be posted: all others answer an ask, close or reclaim
abbrev pub is_postable : Move → Bool
is_postable (Issue n) = true
is_postable (Spend n) = true
is_postable (Give j n) = true
is_postable m = false

abbrev pub has_closed : DeskValue → Bool
has_closed d = is_closed d.ledger.log.entries

-- the log has no numbers left for an ordinary entry of this many moves
abbrev pub is_full : DeskValue → ℕ → Bool
is_full d count = nat_lt LAST_APPEND (end d.ledger.log.entries + count)

-- the cause of a book; a full log comes before a lack of rights
abbrev pub book_cause : Bool → Option BookError → Option DeskError
book_cause full (Some NoSite) = Some NoSuchSite
book_cause full (Some OwnSite) = Some SameSite
book_cause full (Some Gone) = Some PeerClosed
book_cause full (Some Lacking) = if full then Some LogFull else Some Short
book_cause full None = if full then Some LogFull else None

abbrev pub write_fault : DeskValue → List Move → Option DeskError
write_fault d ms = book_cause (is_full d (length ms)) (check_fault d.ledger.book ms)

abbrev pub post_fault : DeskValue → List Move → Option DeskError
post_fault d ms =
    if has_closed d then Some Closed
    else (if nat_lt (length ms) 1 || nat_lt MAX_MOVES (length ms) then Some BadCount
    else (if list_any (λ m. not (is_postable m)) ms then Some BadMove
    else write_fault d ms))

abbrev pub is_no_amount : ℕ → Bool
is_no_amount n = nat_lt n 1 || nat_lt MAX_AMOUNT n

abbrev pub issue_fault : DeskValue → ℕ → Option DeskError
issue_fault d n =
    if has_closed d then Some Closed
    else (if is_no_amount n then Some BadAmount
    else write_fault d (Issue n ∷ []))

abbrev pub give_fault : DeskValue → ℕ → ℕ → Option DeskError
give_fault d j n =
    if has_closed d then Some Closed
    else (if is_no_amount n then Some BadAmount
    else write_fault d (Give j n ∷ []))

-- ---- spends

-- a spend of this many rights can be served now
abbrev pub can_spend : DeskValue → ℕ → Bool
can_spend d n = (length d.queue.waiting == 0) && nat_le n (held_by d.ledger.book)

abbrev pub is_queue_full : DeskValue → Bool
is_queue_full d = nat_le SLOTS (used d.queue) || nat_lt LAST_TICKET d.queue.next

abbrev pub spend_fault : DeskValue → ℕ → Option DeskError
spend_fault d n =
    if has_closed d then Some Closed
    else (if is_no_amount n then Some BadAmount
    else (if can_spend d n then (if is_full d 1 then Some LogFull else None)
    else (if is_queue_full d then Some QueueFull else None)))

-- what is held beyond the waiting spends; 0 if they need more
abbrev pub spare : DeskValue → ℕ
spare d = held_by d.ledger.book - total_of d.queue.waiting

-- a spend that may not wait
abbrev pub take_fault : DeskValue → ℕ → Option DeskError
take_fault d n =
    if has_closed d then Some Closed
    else (if is_no_amount n then Some BadAmount
    else (if is_full d 1 then Some LogFull
    else (if nat_lt (spare d) n then Some Short
    else None)))

-- the request at the front can be served now
abbrev pub can_serve : DeskValue → Option (ℕ × ℕ × ℕ) → Bool
can_serve d None = false
can_serve d (Some front) = nat_le front.1 (held_by d.ledger.book)

abbrev pub serve_fault : DeskValue → Option DeskError
serve_fault d = if can_serve d (front_of d.queue.waiting) && is_full d 1 then Some LogFull else None

abbrev pub expire_fault : DeskValue → ℕ → Option DeskError
expire_fault d now = if nat_lt now d.time then Some TimeWentBack else None

-- ---- closing

-- why an heir is refused
abbrev pub heir_fault : DeskValue → Option ℕ → Option DeskError
heir_fault d None = None
heir_fault d (Some j) =
    if nat_lt (sites d.ledger.book) j then Some NoSuchSite
    else (if j == d.ledger.log.site then Some SameSite
    else (if (account d.ledger.book j).closed then Some PeerClosed
    else (if nat_lt MAX_AMOUNT (held_by d.ledger.book) then Some HeldTooMuch
    else None)))

abbrev pub close_fault : DeskValue → Option ℕ → Option DeskError
close_fault d heir =
    if has_closed d then Some Closed
    else (if not (length d.queue.waiting == 0) then Some QueueBusy
    else heir_fault d heir)

-- ---- a call is refused by its fault; one that has none can only lack memory

abbrev pub DeskRefuses : {X : Type 0} → Option DeskError → Result X DeskError → Type 0
DeskRefuses fault (Ok x) = fault ≡ None
DeskRefuses fault (Err OutOfMemory) = fault ≡ None
DeskRefuses fault (Err e) = fault ≡ Some e
