-- Reading a line from left to right. The order of the steps is the order in which faults are checked.
use Rattle.std.specs.Prelude.{◌≡◌, ℕ, ◌+◌, ◌-◌, Bool, true, false, ◌&&◌, ◌||◌, not, List, [], ◌∷◌, length, take, Option}
use Rattle.std.specs.Prelude.{Some, None, Result, Ok, Err, nat_lt, ◌==◌, if◌then◌else◌, slice_index}
use Rattle.rights_types.specs.declared.moves.Move.{Move}
use Rattle.rights_types.specs.Moves.{is_close, names, lacks_own_place}
use Rattle.rights_types.specs.Entries.{EntryValue}
use Rattle.rights_types.specs.Messages.{MessageValue}
use Rattle.rights_types.specs.Messages.MessageValue.{AnEntry, AQuery, AnAnswer, ABeat, AnAsk, ADenial, AHello}
use Rattle.entry_codec.specs.declared.fault.Place.{Place}
use Rattle.entry_codec.specs.declared.fault.LineError.{LineError}
use Rattle.entry_codec.specs.declared.fault.LineError.TheVariants.{TooLong, NoEnd, BadKind, BadField, BadMove}
use Rattle.entry_codec.specs.declared.fault.LineError.TheVariants.{CountWrong, TrailingBytes, OutOfMemory}
use Rattle.entry_codec.specs.Parts.{parts_in}
use Rattle.entry_codec.specs.Moves.{first_number, move_of}
use Rattle.rights_types.specs.declared.limits.TheConstants.{MAX_AMOUNT, MAX_ANSWER, MAX_ASK, MAX_LINE, MAX_MOVES}
use Rattle.rights_types.specs.declared.limits.TheConstants.{MAX_NUMBER, MAX_SITES}
use Rattle.entry_codec.specs.declared.format.TheConstants.{ANSWER_LETTER, ASK_LETTER, BEAT_LETTER, DENIAL_LETTER}
use Rattle.entry_codec.specs.declared.format.TheConstants.{ENTRY_LETTER, FIRST_MOVE, HELLO_LETTER, LINE_END}
use Rattle.entry_codec.specs.declared.format.TheConstants.{QUERY_LETTER}
use Rattle.entry_codec.specs.Letters.{is_letter}

infixl 10 ◌>>=◌
abbrev pub ◌>>=◌ : {A B : Type 0} → Result A LineError → (A → Result B LineError)
    → Result B LineError
(Ok x) >>= f = f x
(Err e) >>= f = Err e

abbrev pub place : ℕ → ℕ → Place
place part field = record { part = part; field = field }

abbrev pub or_fault : {A : Type 0} → LineError → Option A → Result A LineError
or_fault e None = Err e
or_fault e (Some x) = Ok x

-- a fault if the test is true
abbrev pub fault_if : LineError → Bool → Result (Unit {0}) LineError
fault_if e b = if b then Err e else Ok tt

-- the number in a range that a fixed field spells, and the fields after it
unfoldable pub value_at : ℕ → ℕ → Place → List (List ℕ) → Result (ℕ × List (List ℕ)) LineError
value_at low high at fields = or_fault (BadField at) (first_number low high fields)

-- a fixed field, by what it must spell
abbrev pub site_at : Place → List (List ℕ) → Result (ℕ × List (List ℕ)) LineError
site_at at fields = value_at 1 MAX_SITES at fields

abbrev pub number_at : Place → List (List ℕ) → Result (ℕ × List (List ℕ)) LineError
number_at at fields = value_at 0 MAX_NUMBER at fields

abbrev pub ask_at : Place → List (List ℕ) → Result (ℕ × List (List ℕ)) LineError
ask_at at fields = value_at 1 MAX_ASK at fields

abbrev pub amount_at : Place → List (List ℕ) → Result (ℕ × List (List ℕ)) LineError
amount_at at fields = value_at 1 MAX_AMOUNT at fields

-- a move that names its origin, lacks the origin's own position, or closes before the last field
abbrev pub is_misplaced : ℕ → Bool → Move → Bool
is_misplaced origin last m = names origin m || lacks_own_place origin m || (is_close m && not last)

abbrev pub allowed : LineError → ℕ → Bool → Option Move → Result Move LineError
allowed e origin last None = Err e
allowed e origin last (Some m) = if is_misplaced origin last m then Err e else Ok m

-- the moves from a field on
unfoldable pub moves_from : ℕ → ℕ → ℕ → List (List ℕ) → Result (List Move) LineError
moves_from origin part field [] = Ok []
moves_from origin part field (text ∷ rest) = do
  m ← allowed (BadMove (place part field)) origin (length rest == 0) (move_of text)
  ms ← moves_from origin part (field + 1) rest
  Ok (m ∷ ms)

-- no move, more than 16, or an own number that is not the previous one plus their count
abbrev pub is_miscounted : ℕ → ℕ → ℕ → Bool
is_miscounted prev own count = count == 0 || nat_lt MAX_MOVES count || not (own == prev + count)

-- an entry of this origin, from the field after the origin on
unfoldable pub entry_after : ℕ → ℕ → List (List ℕ) → Result EntryValue LineError
entry_after part origin fields = do
  prev ← number_at (place part 2) fields
  own ← number_at (place part 3) prev.1
  moves ← moves_from origin part FIRST_MOVE own.1
  counted ← fault_if CountWrong (is_miscounted prev.0 own.0 (length moves))
  Ok (record { origin = origin; prev = prev.0; moves = moves })

-- an entry, from the field after its letter on
unfoldable pub entry_of : ℕ → List (List ℕ) → Result EntryValue LineError
entry_of part fields = do
  origin ← site_at (place part 1) fields
  entry_after part origin.0 origin.1

-- an entry of an answer of this origin
unfoldable pub listed_entry_of : ℕ → ℕ → List (List ℕ) → Result EntryValue LineError
listed_entry_of part origin [] = Err (BadField (place part 0))
listed_entry_of part origin (letter ∷ fields) = do
  kind ← fault_if (BadField (place part 0)) (not (is_letter ENTRY_LETTER letter))
  site ← site_at (place part 1) fields
  same ← fault_if (BadField (place part 1)) (not (site.0 == origin))
  entry_after part origin site.1

unfoldable pub entries_of : ℕ → ℕ → List (List (List ℕ)) → Result (List EntryValue) LineError
entries_of part origin [] = Ok []
entries_of part origin (fields ∷ rest) = do
  e ← listed_entry_of part origin fields
  es ← entries_of (part + 1) origin rest
  Ok (e ∷ es)

-- a site that differs from another one
unfoldable pub other_site_at : ℕ → Place → List (List ℕ) → Result (ℕ × List (List ℕ)) LineError
other_site_at other at fields = do
  site ← site_at at fields
  same ← fault_if (BadField at) (site.0 == other)
  Ok site

-- the two sites of an answer, which are all of its first part
unfoldable pub answer_sites_of : List (List ℕ) → Result (ℕ × ℕ) LineError
answer_sites_of fields = do
  origin ← site_at (place 0 1) fields
  asker ← other_site_at origin.0 (place 0 2) origin.1
  alone ← fault_if TrailingBytes (not (length asker.1 == 0))
  Ok (origin.0, asker.0)

-- the entries of an answer of this origin: each in turn, and then their count
unfoldable pub answer_entries_of : ℕ → List (List (List ℕ)) → Result (List EntryValue) LineError
answer_entries_of origin parts = do
  entries ← entries_of 1 origin parts
  few ← fault_if CountWrong (nat_lt MAX_ANSWER (length entries))
  Ok entries

-- more fields or parts than the kind has
abbrev pub trails : List (List ℕ) → List (List (List ℕ)) → Bool
trails fields others = not (length fields == 0) || not (length others == 0)

-- each kind of message, by the fields after its letter and by its further parts
unfoldable pub push_of : List (List ℕ) → List (List (List ℕ)) → Result MessageValue LineError
push_of fields others = do
  e ← entry_of 0 fields
  alone ← fault_if TrailingBytes (not (length others == 0))
  Ok (AnEntry e)

unfoldable pub query_of : List (List ℕ) → List (List (List ℕ)) → Result MessageValue LineError
query_of fields others = do
  asker ← site_at (place 0 1) fields
  origin ← other_site_at asker.0 (place 0 2) asker.1
  first ← number_at (place 0 3) origin.1
  last ← number_at (place 0 4) first.1
  alone ← fault_if TrailingBytes (trails last.1 others)
  Ok (AQuery (record { asker = asker.0; origin = origin.0; first = first.0; last = last.0 }))

unfoldable pub answer_of : List (List ℕ) → List (List (List ℕ)) → Result MessageValue LineError
answer_of fields others = do
  sites ← answer_sites_of fields
  entries ← answer_entries_of sites.0 others
  Ok (AnAnswer (record { origin = sites.0; asker = sites.1; entries = entries }))

unfoldable pub beat_of : List (List ℕ) → List (List (List ℕ)) → Result MessageValue LineError
beat_of fields others = do
  origin ← site_at (place 0 1) fields
  number ← number_at (place 0 2) origin.1
  alone ← fault_if TrailingBytes (trails number.1 others)
  Ok (ABeat (record { origin = origin.0; number = number.0 }))

unfoldable pub ask_of : List (List ℕ) → List (List (List ℕ)) → Result MessageValue LineError
ask_of fields others = do
  asker ← site_at (place 0 1) fields
  asked ← other_site_at asker.0 (place 0 2) asker.1
  ask ← ask_at (place 0 3) asked.1
  amount ← amount_at (place 0 4) ask.1
  alone ← fault_if TrailingBytes (trails amount.1 others)
  Ok (AnAsk (record { asker = asker.0; asked = asked.0; ask = ask.0; amount = amount.0 }))

unfoldable pub denial_of : List (List ℕ) → List (List (List ℕ)) → Result MessageValue LineError
denial_of fields others = do
  denier ← site_at (place 0 1) fields
  asker ← other_site_at denier.0 (place 0 2) denier.1
  ask ← ask_at (place 0 3) asker.1
  alone ← fault_if TrailingBytes (trails ask.1 others)
  Ok (ADenial (record { denier = denier.0; asker = asker.0; ask = ask.0 }))

unfoldable pub hello_of : List (List ℕ) → List (List (List ℕ)) → Result MessageValue LineError
hello_of fields others = do
  site ← site_at (place 0 1) fields
  alone ← fault_if TrailingBytes (trails site.1 others)
  Ok (AHello site.0)

-- a message of a kind that has no entries
unfoldable pub short_of : List ℕ → List (List ℕ) → List (List (List ℕ))
    → Result MessageValue LineError
short_of letter fields others =
    if is_letter QUERY_LETTER letter then query_of fields others
    else (if is_letter BEAT_LETTER letter then beat_of fields others
    else (if is_letter ASK_LETTER letter then ask_of fields others
    else (if is_letter DENIAL_LETTER letter then denial_of fields others
    else (if is_letter HELLO_LETTER letter then hello_of fields others
    else Err BadKind))))

unfoldable pub message_of : List (List (List ℕ)) → Result MessageValue LineError
message_of [] = Err BadKind
message_of ([] ∷ others) = Err BadKind
message_of ((letter ∷ fields) ∷ others) =
    if is_letter ENTRY_LETTER letter then push_of fields others
    else (if is_letter ANSWER_LETTER letter then answer_of fields others
    else short_of letter fields others)

abbrev pub is_ended : List ℕ → Bool
is_ended line = not (length line == 0) && (slice_index line (length line - 1) == LINE_END)

-- a whole line
unfoldable pub reading : List ℕ → Result MessageValue LineError
reading line = do
  short ← fault_if TooLong (nat_lt MAX_LINE (length line))
  ended ← fault_if NoEnd (not (is_ended line))
  message_of (parts_in (take (length line - 1) line))

-- a message that has entries: no other message takes memory
abbrev pub has_entries : MessageValue → Bool
has_entries (AnEntry e) = true
has_entries (AnAnswer a) = true
has_entries m = false

-- lack of memory is reported only for a message that has entries
abbrev pub WantsRoom : {X : Type 0} → Result X LineError → Result MessageValue LineError → Type 0
WantsRoom (Err OutOfMemory) read = (m : MessageValue) × (read ≡ Ok m) × (has_entries m ≡ true)
WantsRoom result read = Unit {0}
