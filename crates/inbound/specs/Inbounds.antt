-- The input from one other site.
use Rattle.std.specs.Prelude.{◌≡◌, ℕ, ◌≤◌, Bool, true, false, not, ◌==◌, ◌||◌, List, [], ◌∷◌, ◌++◌, length, Option}
use Rattle.std.specs.Prelude.{Some, None, Result, Ok, Err, is_none, if◌then◌else◌}
use Rattle.std.specs.List.{list_any}
use Rattle.rights_types.specs.declared.limits.TheConstants.{MIN_SITES, MAX_SITES}
use Rattle.rights_types.specs.Entries.{EntryValue}
use Rattle.rights_types.specs.Moves.{is_site}
use Rattle.rights_types.specs.Messages.{MessageValue, QueryValue}
use Rattle.rights_types.specs.Messages.MessageValue.{AnEntry, AQuery, AnAnswer, ABeat, AnAsk, ADenial, AHello}
use Rattle.rights_types.specs.declared.moves.Move.{Move}
use Rattle.rights_types.specs.declared.moves.Move.TheVariants.{CloseAt}
use Rattle.entry_codec.specs.Spelling.{Spells}
use Rattle.entry_codec.specs.declared.fault.LineError.{LineError}
use Rattle.rights_book.specs.Checks.{names_above}
use Rattle.sub_buffer.specs.Buffers.{BufferValue, new_buffer, IsSettled}
use Rattle.sub_buffer.specs.Table.{after_beat}
use Rattle.sub_buffer.specs.Follows.{Follows, HasPut}
use Rattle.sub_buffer.specs.Arrivals.{ArriveAll}
use Rattle.sub_buffer.specs.Gaps.{GapOf, GapIs, Wants, asked_for}
use Rattle.sub_buffer.specs.declared.arrivals.TheConstants.{MAX_VERDICTS}
use Rattle.sub_buffer.specs.declared.verdict.Verdict.{Verdict}
use Rattle.sub_buffer.specs.declared.verdict.Verdict.TheVariants.{Ready}
use Rattle.inbound.specs.declared.fault.InboundError.{InboundError}
use Rattle.inbound.specs.declared.fault.InboundError.TheVariants.{Line, WrongOrigin, BadSite, OutOfMemory}
use Rattle.inbound.specs.declared.inbound.Arrival.{Arrival}
use Rattle.inbound.specs.declared.inbound.Arrival.TheVariants.{Entries, Beat, Query, Ask, Deny, Hello}

-- the buffer of the origin's entries, and how many sites the system has
pub record InboundValue : Type 0 where
  pub buffer : BufferValue
  pub sites : ℕ

abbrev pub new_inbound : ℕ → ℕ → ℕ → InboundValue
new_inbound me origin n = record { buffer = new_buffer me origin; sites = n }

-- of every inbound: both sites are of the system, and no held entry is next
pub record IsInbound (i : InboundValue) : Type 0 where
  pub some : MIN_SITES ≤ i.sites
  pub few : i.sites ≤ MAX_SITES
  pub me : i.buffer.me ≤ i.sites
  pub origin : i.buffer.origin ≤ i.sites
  pub settled : IsSettled i.buffer

-- ---- whose message it is

abbrev pub sender : MessageValue → ℕ
sender (AnEntry e) = e.origin
sender (AQuery q) = q.asker
sender (AnAnswer a) = a.origin
sender (ABeat b) = b.origin
sender (AnAsk a) = a.asker
sender (ADenial d) = d.denier
sender (AHello s) = s

-- the site that a message is addressed to, if there is one
abbrev pub addressee : MessageValue → Option ℕ
addressee (AQuery q) = Some q.origin
addressee (AnAnswer a) = Some a.asker
addressee (AnAsk a) = Some a.asked
addressee (ADenial d) = Some d.asker
addressee m = None

abbrev pub is_for : ℕ → MessageValue → Bool
is_for me m = is_none (addressee m) || is_site me (addressee m)

abbrev pub entries_of : MessageValue → List EntryValue
entries_of (AnEntry e) = e ∷ []
entries_of (AnAnswer a) = a.entries
entries_of m = []

-- ---- why a line is refused

-- a frontier that does not have exactly n numbers
abbrev pub has_other_count : ℕ → Move → Bool
has_other_count n (CloseAt numbers) = not (length numbers == n)
has_other_count n m = false

-- a move of a system other than one of n sites: it names a site above n, or has another frontier
abbrev pub is_foreign : ℕ → Move → Bool
is_foreign n m = names_above n m || has_other_count n m

abbrev pub has_foreign : ℕ → List EntryValue → Bool
has_foreign n es = list_any (λ (e : EntryValue). list_any (is_foreign n) e.moves) es

abbrev pub message_fault : InboundValue → MessageValue → Option InboundError
message_fault i m =
    if not (sender m == i.buffer.origin) then Some WrongOrigin
    else (if not (is_for i.buffer.me m) || has_foreign i.sites (entries_of m) then Some BadSite
    else None)

abbrev pub line_fault : InboundValue → Result MessageValue LineError → Option InboundError
line_fault i (Err fault) = Some (Line fault)
line_fault i (Ok m) = message_fault i m

-- the message of a line that has no fault of its own
abbrev pub Reads : Result MessageValue LineError → Type 0
Reads (Ok m) = Unit {0}
Reads (Err fault) = ⊥

-- a line is refused for its fault; if memory was refused, its sender and addressee may not have been checked
abbrev pub InboundRefuses : {X : Type 0} → InboundValue → Result MessageValue LineError → Result X InboundError → Type 0
InboundRefuses i read (Ok x) = line_fault i read ≡ None
InboundRefuses i read (Err OutOfMemory) = Reads read
InboundRefuses i read (Err e) = line_fault i read ≡ Some e

-- ---- what a line brings

-- the entries that were answered Ready, in order
abbrev pub ready_in : {A : Type 0} → List (Verdict A) → List EntryValue
ready_in [] = []
ready_in (Ready e ∷ vs) = e ∷ ready_in vs
ready_in (v ∷ vs) = ready_in vs

-- entries came, with these verdicts: on each, followed by Ready for each entry that it freed
pub record EntriesCome {A : Type 0} (old : InboundValue) (es : List EntryValue) (verdicts : List (Verdict A))
    (new : InboundValue) : Type 0 where
  pub arrive : ArriveAll old.buffer [] es new.buffer verdicts
  -- whatever came, from one writer or not: the Ready entries continue the chain of what was delivered
  pub chain : (put : List EntryValue) → HasPut put old.buffer → HasPut (put ++ ready_in verdicts) new.buffer
  pub few : length verdicts ≤ MAX_VERDICTS
  pub rest : new ≡ record old { buffer = new.buffer }

abbrev pub BringsEntries : {A : Type 0} → InboundValue → List EntryValue → Arrival A → InboundValue → Type 0
BringsEntries old es (Entries verdicts) new = EntriesCome old es verdicts new
BringsEntries old es arrival new = ⊥

-- the effect of a message, by its kind
abbrev pub Arrives : {A : Type 0} → InboundValue → MessageValue → Arrival A → InboundValue → Type 0
Arrives old (AnEntry e) arrival new = BringsEntries old (e ∷ []) arrival new
Arrives old (AnAnswer a) arrival new = BringsEntries old a.entries arrival new
Arrives old (ABeat b) arrival new = (arrival ≡ Beat b)
    × (new ≡ record old { buffer = after_beat old.buffer b.number })
Arrives old (AQuery q) arrival new = (arrival ≡ Query q) × (new ≡ old)
Arrives old (AnAsk a) arrival new = (arrival ≡ Ask a) × (new ≡ old)
Arrives old (ADenial d) arrival new = (arrival ≡ Deny d) × (new ≡ old)
Arrives old (AHello s) arrival new = (arrival ≡ Hello) × (new ≡ old)

-- ---- what is asked

-- the query q asks for the gap: with again for any gap, else if it is not the one asked for last
abbrev pub Asks : Bool → Option QueryValue → Option QueryValue → Option QueryValue → Type 0
Asks true gap asked q = q ≡ gap
Asks false gap asked q = Wants gap asked q

-- the gap, according to the buffer and to any log that it follows, and the query for it, which from then on counts as
-- asked for
pub record QueryOf (old : InboundValue) (again : Bool) (q : Option QueryValue) (new : InboundValue) : Type 0 where
  pub gap : Option QueryValue
  pub by_table : GapOf old.buffer gap
  pub by_log : (es set put : List EntryValue) → Follows es set put old.buffer
      → GapIs old.buffer.me old.buffer.origin set put old.buffer.told gap
  pub asks : Asks again gap old.buffer.asked q
  pub left : new ≡ record old { buffer = asked_for old.buffer q }

-- a query, if there is one, with a line that spells it
abbrev pub IsWritten : {L : Type 0} → (L → List ℕ) → Option QueryValue → Option (QueryValue × L) → Type 0
IsWritten bytes None None = Unit {0}
IsWritten bytes (Some q) (Some given) = (given.0 ≡ q) × Spells (AQuery q) (bytes given.1)
IsWritten bytes q given = ⊥
