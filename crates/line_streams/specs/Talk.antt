-- The effect of a conversation on its reader, its writer and its handler.
use Rattle.std.specs.Prelude.{◌≡◌, ℕ, ◌<◌, ◌≤◌, ◌+◌, ◌⊎◌, List, [], ◌∷◌, ◌++◌, Option, None, Result, Ok, Err, length}
use Rattle.std.specs.Io.KnownBytes.{Consumes, Appends}
use Rattle.entry_codec.specs.Pieces.{pieces, unfinished}
use Rattle.line_streams.specs.declared.limit.TheConstants.{LINE_LIMIT}
use Rattle.line_streams.specs.Counting.{Parted, still}
use Rattle.line_streams.specs.Handling.{Answering, LinesGet}
use Rattle.line_streams.specs.declared.fault.ConversationError.{ConversationError}
use Rattle.line_streams.specs.declared.fault.ConversationError.TheVariants.{ReadFailed, WriteFailed, OutOfMemory}
use Rattle.line_streams.specs.declared.fault.ConversationError.TheVariants.{TooManyLines}
use Rattle.line_streams.specs.declared.handler.EndedBy.{EndedBy}
use Rattle.line_streams.specs.declared.handler.EndedBy.TheVariants.{Input, Handler}

-- an unfinished last line gets a line feed
abbrev pub last_line : List ℕ → List (List ℕ)
last_line [] = []
last_line (x ∷ xs) = ((x ∷ xs) ++ 10 ∷ []) ∷ []

-- the lines of an input
abbrev pub lines_of : List ℕ → List (List ℕ)
lines_of input = pieces input ++ last_line (unfinished input)

-- the list has this prefix
abbrev pub BeginsWith : {X : Type 0} → List X → List X → Type 0
BeginsWith {X} xs front = (rest : List X) × (xs ≡ front ++ rest)

-- the list has this prefix, and more
abbrev pub GoesBeyond : {X : Type 0} → List X → List X → Type 0
GoesBeyond {X} xs front = (rest : List X) × (0 < length rest) × (xs ≡ front ++ rest)

-- the reader gave some input, some lines were replied to from the initial state on, and the writer took some text
pub record Talk {S : Type 0} (answers : Answering S) (start : S)
    (given left held holds : Option (List ℕ)) : Type 0 where
  pub chunks : List (List ℕ)
  pub input : List ℕ
  pub lines : List (List ℕ)
  pub replies : List ℕ
  pub text : List ℕ
  pub state : S
  pub reads : Consumes given left input
  pub parted : Parted chunks input
  pub answered : LinesGet answers start lines replies state
  pub writes : Appends held holds text

-- which lines were replied to, and how much of the replies was written. Lines, and reads that end none, are counted,
-- and at `LINE_LIMIT` the conversation is aborted
abbrev pub EndsBy : {S : Type 0} → {answers : Answering S} → {start : S} → {given left held holds : Option (List ℕ)}
    → Result EndedBy ConversationError → Talk answers start given left held holds → Type 0
EndsBy (Ok Input) talk =
    (talk.lines ≡ lines_of talk.input) × (talk.text ≡ talk.replies)
    × (length talk.lines + still talk.chunks < LINE_LIMIT)
EndsBy (Ok Handler) talk = BeginsWith (lines_of talk.input) talk.lines × (talk.text ≡ talk.replies)
EndsBy (Err ReadFailed) talk =
    (talk.lines ≡ pieces talk.input) × (talk.text ≡ talk.replies) × (length talk.lines + still talk.chunks < LINE_LIMIT)
EndsBy (Err WriteFailed) talk = BeginsWith (lines_of talk.input) talk.lines × GoesBeyond talk.replies talk.text
EndsBy (Err OutOfMemory) talk = BeginsWith (lines_of talk.input) talk.lines × (talk.text ≡ talk.replies)
EndsBy (Err TooManyLines) talk =
    BeginsWith (lines_of talk.input) talk.lines × (talk.text ≡ talk.replies)
    × (LINE_LIMIT ≤ length (lines_of talk.input) + still talk.chunks)

-- the line after those that were replied to ended the conversation
pub record IsEnded {S : Type 0} (answers : Answering S) (all lines : List (List ℕ)) (state after : S) : Type 0 where
  pub line : List ℕ
  pub next : BeginsWith all (lines ++ line ∷ [])
  pub ends : answers state line None after

-- the final state of the handler: that after the last reply, unless a line ended the conversation, or memory ran out
abbrev pub Leaves : {S : Type 0} → {answers : Answering S} → {start : S} → {given left held holds : Option (List ℕ)}
    → (S → S → Type 0) → Result EndedBy ConversationError → Talk answers start given left held holds → S → Type 0
Leaves fails (Ok Input) talk after = after ≡ talk.state
Leaves {answers = answers} fails (Ok Handler) talk after
    = IsEnded answers (lines_of talk.input) talk.lines talk.state after
Leaves fails (Err ReadFailed) talk after = after ≡ talk.state
Leaves {answers = answers} fails (Err WriteFailed) talk after =
    (after ≡ talk.state) ⊎ fails talk.state after ⊎ IsEnded answers (lines_of talk.input) talk.lines talk.state after
Leaves fails (Err OutOfMemory) talk after = (after ≡ talk.state) ⊎ fails talk.state after
Leaves fails (Err TooManyLines) talk after = after ≡ talk.state
