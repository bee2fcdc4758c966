-- The one spelling of each message: parts separated by `;`, each of fields separated by spaces, and a line feed.
use Rattle.std.specs.Prelude.{◌≡◌, ℕ, List, [], ◌∷◌, ◌++◌, map, decimal, Option, Some, None}
use Rattle.std.specs.List.{join_with_byte}
use Rattle.rights_types.specs.declared.moves.Move.{Move}
use Rattle.rights_types.specs.declared.moves.Move.TheVariants.{Issue, Spend, Grant, Give, Close, CloseAt, TakeBack}
use Rattle.rights_types.specs.Entries.{EntryValue, own}
use Rattle.rights_types.specs.Messages.{MessageValue, QueryValue, AnswerValue, BeatValue, AskValue, DenyValue}
use Rattle.rights_types.specs.Messages.{IsMessage}
use Rattle.rights_types.specs.Messages.MessageValue.{AnEntry, AQuery, AnAnswer, ABeat, AnAsk, ADenial, AHello}
use Rattle.entry_codec.specs.declared.format.TheConstants.{ANSWER_LETTER, ASK_LETTER, BEAT_LETTER, CLOSE_AT_LETTER}
use Rattle.entry_codec.specs.declared.format.TheConstants.{CLOSE_LETTER, DENIAL_LETTER, ENTRY_LETTER, FIELD_BREAK}
use Rattle.entry_codec.specs.declared.format.TheConstants.{GIVE_LETTER, GRANT_LETTER, HELLO_LETTER, ISSUE_LETTER}
use Rattle.entry_codec.specs.declared.format.TheConstants.{LINE_END, PART_BREAK, QUERY_LETTER, SPEND_LETTER}
use Rattle.entry_codec.specs.declared.format.TheConstants.{TAKE_BACK_LETTER, VALUE_BREAK}
use Rattle.entry_codec.specs.Letters.{one_letter}

-- a move's letter and values, which colons separate
abbrev pub move_values : Move → List (List ℕ)
move_values (Issue n) = one_letter ISSUE_LETTER ∷ decimal n ∷ []
move_values (Spend n) = one_letter SPEND_LETTER ∷ decimal n ∷ []
move_values (Grant j n a) = one_letter GRANT_LETTER ∷ decimal j ∷ decimal n ∷ decimal a ∷ []
move_values (Give j n) = one_letter GIVE_LETTER ∷ decimal j ∷ decimal n ∷ []
move_values Close = one_letter CLOSE_LETTER ∷ []
move_values (CloseAt f) = one_letter CLOSE_AT_LETTER ∷ map decimal f
move_values (TakeBack j n) = one_letter TAKE_BACK_LETTER ∷ decimal j ∷ decimal n ∷ []

abbrev pub move_text : Move → List ℕ
move_text m = join_with_byte VALUE_BREAK (move_values m)

-- the fields before an entry's moves
abbrev pub head_fields : EntryValue → List (List ℕ)
head_fields e = one_letter ENTRY_LETTER ∷ decimal e.origin ∷ decimal e.prev ∷ decimal (own e) ∷ []

abbrev pub entry_fields : EntryValue → List (List ℕ)
entry_fields e = head_fields e ++ map move_text e.moves

abbrev pub query_fields : QueryValue → List (List ℕ)
query_fields q =
    one_letter QUERY_LETTER ∷ decimal q.asker ∷ decimal q.origin ∷ decimal q.first ∷ decimal q.last ∷ []

abbrev pub answer_fields : AnswerValue → List (List ℕ)
answer_fields a = one_letter ANSWER_LETTER ∷ decimal a.origin ∷ decimal a.asker ∷ []

abbrev pub beat_fields : BeatValue → List (List ℕ)
beat_fields b = one_letter BEAT_LETTER ∷ decimal b.origin ∷ decimal b.number ∷ []

abbrev pub ask_fields : AskValue → List (List ℕ)
ask_fields a = one_letter ASK_LETTER ∷ decimal a.asker ∷ decimal a.asked ∷ decimal a.ask ∷ decimal a.amount ∷ []

abbrev pub denial_fields : DenyValue → List (List ℕ)
denial_fields d = one_letter DENIAL_LETTER ∷ decimal d.denier ∷ decimal d.asker ∷ decimal d.ask ∷ []

-- the parts of a message's line, each a list of fields
abbrev pub parts_of : MessageValue → List (List (List ℕ))
parts_of (AnEntry e) = entry_fields e ∷ []
parts_of (AQuery q) = query_fields q ∷ []
parts_of (AnAnswer a) = answer_fields a ∷ map entry_fields a.entries
parts_of (ABeat b) = beat_fields b ∷ []
parts_of (AnAsk a) = ask_fields a ∷ []
parts_of (ADenial d) = denial_fields d ∷ []
parts_of (AHello s) = (one_letter HELLO_LETTER ∷ decimal s ∷ []) ∷ []

abbrev pub part_text : List (List ℕ) → List ℕ
part_text fields = join_with_byte FIELD_BREAK fields

abbrev pub text_of : MessageValue → List ℕ
text_of m = join_with_byte PART_BREAK (map part_text (parts_of m))

-- a message's line: its text and a line feed
abbrev pub line : MessageValue → List ℕ
line m = text_of m ++ LINE_END ∷ []

-- the text spells the message
abbrev pub Spells : MessageValue → List ℕ → Type 0
Spells m text = IsMessage m × (text ≡ line m)

-- the text spells this message; without a message there is no text
abbrev pub LineOf : {V : Type 0} → (V → List ℕ) → Option MessageValue → Option V → Type 0
LineOf bytes None None = Unit {0}
LineOf bytes (Some m) (Some text) = Spells m (bytes text)
LineOf bytes m text = ⊥
