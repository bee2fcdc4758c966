-- Reading a move from its field, which is a letter and numbers in their ranges, separated by colons.
use Rattle.std.specs.Prelude.{ℕ, ◌&&◌, ◌||◌, not, List, [], ◌∷◌, length, Option, Some, None, nat_lt, ◌==◌}
use Rattle.std.specs.Prelude.{if◌then◌else◌, decimal}
use Rattle.std.specs.Str.{bytes_eq}
use Rattle.std.specs.Str.Parse.{digits_value}
use Rattle.rights_types.specs.declared.moves.Move.{Move}
use Rattle.rights_types.specs.declared.moves.Move.TheVariants.{Issue, Spend, Grant, Give, Close, CloseAt, TakeBack}
use Rattle.entry_codec.specs.Parts.{split_at}
use Rattle.rights_types.specs.declared.limits.TheConstants.{MAX_AMOUNT, MAX_ASK, MAX_NUMBER, MAX_SITES, MAX_TOTAL}
use Rattle.rights_types.specs.declared.limits.TheConstants.{MIN_SITES}
use Rattle.entry_codec.specs.declared.format.TheConstants.{CLOSE_AT_LETTER, CLOSE_LETTER, GIVE_LETTER, GRANT_LETTER}
use Rattle.entry_codec.specs.declared.format.TheConstants.{ISSUE_LETTER, SPEND_LETTER, TAKE_BACK_LETTER, VALUE_BREAK}
use Rattle.entry_codec.specs.Letters.{is_letter}

infixl 10 ◌>>=◌
abbrev pub ◌>>=◌ : {A B : Type 0} → Option A → (A → Option B) → Option B
(Some x) >>= f = f x
None >>= f = None

abbrev pub number_as : ℕ → ℕ → List ℕ → ℕ → Option ℕ
number_as low high text n =
    if bytes_eq text (decimal n) && not (nat_lt n low) && not (nat_lt high n) then Some n else None

-- the number in a range that a text spells
unfoldable pub number_of : ℕ → ℕ → List ℕ → Option ℕ
number_of low high text = number_as low high text (digits_value 10 text)

-- the number that the first text spells, and the texts after it
unfoldable pub first_number : ℕ → ℕ → List (List ℕ) → Option (ℕ × List (List ℕ))
first_number low high [] = None
first_number low high (text ∷ rest) = do
  n ← number_of low high text
  Some (n, rest)

-- the number that the only text spells
unfoldable pub only_number : ℕ → ℕ → List (List ℕ) → Option ℕ
only_number low high texts = do
  first ← first_number low high texts
  if length first.1 == 0 then Some first.0 else None

unfoldable pub all_numbers : List (List ℕ) → Option (List ℕ)
all_numbers [] = Some []
all_numbers (text ∷ rest) = do
  n ← number_of 0 MAX_NUMBER text
  ns ← all_numbers rest
  Some (n ∷ ns)

unfoldable pub grant_in : List (List ℕ) → Option Move
grant_in values = do
  peer ← first_number 1 MAX_SITES values
  amount ← first_number 1 MAX_AMOUNT peer.1
  ask ← only_number 1 MAX_ASK amount.1
  Some (Grant peer.0 amount.0 ask)

unfoldable pub give_in : List (List ℕ) → Option Move
give_in values = do
  peer ← first_number 1 MAX_SITES values
  amount ← only_number 1 MAX_AMOUNT peer.1
  Some (Give peer.0 amount)

unfoldable pub take_back_in : List (List ℕ) → Option Move
take_back_in values = do
  peer ← first_number 1 MAX_SITES values
  amount ← only_number 1 MAX_TOTAL peer.1
  Some (TakeBack peer.0 amount)

-- the numbers of 2 to 16 sites
unfoldable pub frontier_in : List (List ℕ) → Option (List ℕ)
frontier_in values =
    if nat_lt (length values) MIN_SITES || nat_lt MAX_SITES (length values) then None else all_numbers values

abbrev pub move_by : List (List ℕ) → Option Move
move_by [] = None
move_by (letter ∷ values) =
    if is_letter ISSUE_LETTER letter then only_number 1 MAX_AMOUNT values >>= (λ n. Some (Issue n))
    else (if is_letter SPEND_LETTER letter then only_number 1 MAX_AMOUNT values >>= (λ n. Some (Spend n))
    else (if is_letter GRANT_LETTER letter then grant_in values
    else (if is_letter GIVE_LETTER letter then give_in values
    else (if is_letter CLOSE_LETTER letter then (if length values == 0 then Some Close else None)
    else (if is_letter CLOSE_AT_LETTER letter then frontier_in values >>= (λ f. Some (CloseAt f))
    else (if is_letter TAKE_BACK_LETTER letter then take_back_in values
    else None))))))

-- the move that a field spells
unfoldable pub move_of : List ℕ → Option Move
move_of field = move_by (split_at VALUE_BREAK field)

-- the move that the first field spells, and the fields after it
unfoldable pub first_move : List (List ℕ) → Option (Move × List (List ℕ))
first_move [] = None
first_move (text ∷ rest) = do
  m ← move_of text
  Some (m, rest)
