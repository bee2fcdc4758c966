-- The value under the lock of a shared desk, and what the calls of its seats reported.
use Rattle.std.specs.Prelude.{◌≡◌, ℕ, ◌+◌, ◌-◌, ◌≤◌, Bool, false, if◌then◌else◌, List, [], length, Option, Some, None, count_by}
use Rattle.rights_types.specs.Chains.{moves_of, IsChain}
use Rattle.rights_types.specs.Rights.{issued, spent, out, taken_back, sum_sites}
use Rattle.rights_types.specs.declared.limits.TheConstants.{MAX_NUMBER, MAX_SITES}
use Rattle.rights_book.specs.Books.{BookValue, sites, peer, received_by, held_by, applied_by}
use Rattle.request_queue.specs.declared.request.Request.{Request}
use Rattle.request_queue.specs.Queues.{front_of}
use Rattle.rights_protocol.specs.Crashes.{Record, lists_of}
use Rattle.site_core.specs.Desks.{DeskValue}
use Rattle.site_core.specs.Replaying.{HasLists}
use Rattle.site_core.specs.declared.desk.requests.Spending.{Spending}
use Rattle.site_core.specs.declared.desk.requests.Spending.TheVariants.{Spent, Queued}
use Rattle.command_keys.specs.Keys.{no_keys}
use Rattle.command_keys.specs.Books.{KeyBookValue}
use Rattle.apply_lanes.specs.declared.names.TheConstants.{SEATS, APPLIERS}
use Rattle.apply_lanes.specs.Names.{DeskId}
use Rattle.apply_lanes.specs.Recorders.{CountsLines}
use Rattle.thread_parts.specs.SplitCounters.{SplitCounterValue}

-- the desk, its four counters, which sites have an applier of their logs, whether the clock's seat was given out, the
-- records of the desk's steps, those of them that a journal has or was handed, how many lines it has with these, and the
-- keys of commands
pub record KeptValue : Type 0 where
  pub desk : DeskValue
  pub issued : SplitCounterValue
  pub spent : SplitCounterValue
  pub number : SplitCounterValue
  pub received : SplitCounterValue
  pub admitted : List Bool
  pub clock_given : Bool
  pub records : List Record
  pub handed : List Record
  pub lines : Option ℕ
  pub keys : KeyBookValue

-- the keys of a site that takes none
abbrev pub no_book : KeyBookValue
no_book = record { keys = no_keys 0; is_recorded = false; unrecorded = []; room = 0 }

abbrev pub book_of : Option KeyBookValue → KeyBookValue
book_of (Some book) = book
book_of None = no_book

-- with a journal, so many lines were made for it in all: those that it was handed, one for each record that it was not,
-- and one for each such key
abbrev pub CountsAll : KeptValue → ℕ → Type 0
CountsAll k made = CountsLines k.lines ((length k.records - length k.handed) + length k.keys.unrecorded) made

-- ---- the invariant of the lock

-- the four sums are the book's, and each number in the book is in its range
pub record MatchesBook (b : BookValue) (issued spent number received : ℕ) : Type 0 where
  pub issued_is : issued ≡ b.own.issued
  pub spent_is : spent ≡ b.own.spent
  pub number_is : number ≡ applied_by b
  pub received_is : received ≡ received_by b
  pub numbers : (o : ℕ) → (peer b o).log.end ≤ MAX_NUMBER

-- how many appliers were given out
abbrev pub admitted_count : List Bool → ℕ
admitted_count bs = count_by (λ b. b) bs

-- shards that are reserved for the clock's seat: one, until it is given out
abbrev pub for_clock : KeptValue → ℕ
for_clock k = if k.clock_given then 0 else 1

-- seats that are left for others than the clock
abbrev pub seats_left : KeptValue → ℕ
seats_left k = k.issued.left - for_clock k

-- seats that were given out, the clock's included
abbrev pub seats_given : KeptValue → ℕ
seats_given k = SEATS + 1 - k.issued.left

-- each seat has a shard of two counters, each applier has one of the two others, none was returned, and that of the
-- clock's seat is there until it is given out
pub record HasShards (k : KeptValue) : Type 0 where
  pub seats : k.issued.left ≤ SEATS + for_clock k
  pub clock : for_clock k ≤ k.issued.left
  pub both : k.spent.left ≡ k.issued.left
  pub places : length k.admitted ≡ APPLIERS
  pub appliers : k.number.left + admitted_count k.admitted ≡ APPLIERS
  pub both_more : k.received.left ≡ k.number.left
  pub no_issued_back : k.issued.returned ≡ 0
  pub no_spent_back : k.spent.returned ≡ 0
  pub no_number_back : k.number.returned ≡ 0
  pub no_received_back : k.received.returned ≡ 0

-- What holds whenever the lock is free. The desk has the lists that its records stand for, and the protocol's invariant
-- of one site holds of them.
pub record IsKept (id : DeskId) (k : KeptValue) : Type 0 where
  pub site : k.desk.ledger.log.site ≡ id.site
  pub same_me : k.desk.ledger.book.me ≡ id.site
  pub same_sites : sites k.desk.ledger.book ≡ id.sites
  pub few : id.sites ≤ MAX_SITES
  pub matches_book : MatchesBook k.desk.ledger.book k.issued.sum k.spent.sum k.number.sum k.received.sum
  pub has_shards : HasShards k
  pub protocol : HasLists (lists_of id.site k.records) k.desk

-- the log is a chain; the sums are those of the log and of what was applied; and what is held is what was issued,
-- received and taken back, less what was given and spent, so it is not negative
pub record IsInBalance (k : KeptValue) : Type 0 where
  pub chain : IsChain k.desk.ledger.log.site k.desk.ledger.log.entries
  pub issued_is : k.issued.sum ≡ issued (moves_of k.desk.ledger.log.entries)
  pub spent_is : k.spent.sum ≡ spent (moves_of k.desk.ledger.log.entries)
  pub number_is : k.number.sum ≡ sum_sites (sites k.desk.ledger.book) (λ o. (peer k.desk.ledger.book o).log.end)
  pub received_is : k.received.sum ≡ sum_sites (sites k.desk.ledger.book) (λ o. (peer k.desk.ledger.book o).received)
  pub held_is : held_by k.desk.ledger.book + out (moves_of k.desk.ledger.log.entries)
      + spent (moves_of k.desk.ledger.log.entries)
      ≡ issued (moves_of k.desk.ledger.log.entries) + sum_sites (sites k.desk.ledger.book)
      (λ o. (peer k.desk.ledger.book o).received)
      + taken_back (moves_of k.desk.ledger.log.entries)

-- a counter to which n was added
abbrev pub raised : SplitCounterValue → ℕ → SplitCounterValue
raised t n = record t { sum = t.sum + n }

-- a counter of which one more shard was given out
abbrev pub one_less : SplitCounterValue → SplitCounterValue → Type 0
one_less old new = (new ≡ record old { left = new.left }) × (new.left + 1 ≡ old.left)

-- ---- seats

-- what the calls of a seat reported
pub record SeatValue : Type 0 where
  pub issued : ℕ
  pub spent : ℕ
  pub served : ℕ

abbrev pub told_nothing : SeatValue
told_nothing = record { issued = 0; spent = 0; served = 0 }

abbrev pub told_issued : SeatValue → ℕ → SeatValue
told_issued s n = record s { issued = s.issued + n }

abbrev pub told_taken : SeatValue → ℕ → SeatValue
told_taken s n = record s { spent = s.spent + n }

abbrev pub told_served : SeatValue → ℕ → SeatValue
told_served s n = record s { served = s.served + n }

-- what is spent by a spend with this result
abbrev pub spent_by : ℕ → Spending → ℕ
spent_by n (Spent number) = n
spent_by n (Queued ticket) = 0

abbrev pub told_spent : SeatValue → ℕ → Spending → SeatValue
told_spent s n answer = record s { spent = s.spent + spent_by n answer }

-- ---- the result of a serve, with the amount

abbrev pub without_amount : Option (ℕ × ℕ × ℕ) → Option (ℕ × ℕ)
without_amount None = None
without_amount (Some (ticket, number, amount)) = Some (ticket, number)

-- the ticket and the amount are those of the request at the front
abbrev pub IsFront : List Request → ℕ × ℕ × ℕ → Type 0
IsFront waiting (ticket, number, amount) = (deadline : ℕ) × (front_of waiting ≡ Some (ticket, amount, deadline))

abbrev pub amount_of : Option (ℕ × ℕ × ℕ) → ℕ
amount_of None = 0
amount_of (Some (ticket, number, amount)) = amount
