-- A conversation between its first read and its last write.
use Rattle.std.specs.Prelude.{◌≡◌, ℕ, ◌<◌, ◌≤◌, ◌+◌, ◌⊎◌, List, [], ◌++◌, Option, Result, Ok, Err, take, length}
use Rattle.std.specs.Io.KnownBytes.{Appends}
use Rattle.entry_codec.specs.Pieces.{pieces, unfinished}
use Rattle.rights_types.specs.declared.limits.TheConstants.{MAX_LINE}
use Rattle.line_streams.specs.declared.limit.TheConstants.{LINE_LIMIT}
use Rattle.line_streams.specs.Counting.{still}
use Rattle.line_streams.specs.Waiting.{Waiting, IsEmpty}
use Rattle.line_streams.specs.Handling.{Answering, LinesGet}
use Rattle.line_streams.specs.Talk.{BeginsWith, IsEnded, lines_of}
use Rattle.line_streams.specs.declared.fault.ConversationError.{ConversationError}
use Rattle.line_streams.specs.declared.fault.ConversationError.TheVariants.{ReadFailed, WriteFailed, OutOfMemory}
use Rattle.line_streams.specs.declared.fault.ConversationError.TheVariants.{TooManyLines}
use Rattle.line_streams.specs.declared.handler.Goes.{Goes}
use Rattle.line_streams.specs.declared.handler.Goes.TheVariants.{On, Ends}
use Rattle.line_streams.specs.declared.handler.EndedBy.{EndedBy}
use Rattle.line_streams.specs.declared.handler.EndedBy.TheVariants.{Input, Handler}

-- these lines were replied to; the writer took some of the replies, and the rest waits
pub record Talked {S : Type 0} (answers : Answering S) (start : S) (lines : List (List ℕ)) (state : S)
    (held now : Option (List ℕ)) (waits : List ℕ) : Type 0 where
  pub replies : List ℕ
  pub written : List ℕ
  pub answered : LinesGet answers start lines replies state
  pub writes : Appends held now written
  pub rest : replies ≡ written ++ waits

-- the lines that ended in the input were replied to, and the unfinished line is carried over, without the bytes beyond
-- the longest line
pub record Going {S : Type 0} (answers : Answering S) (start : S) (input : List ℕ) (state : S)
    (held now : Option (List ℕ)) (waits : Waiting) (carry : List ℕ) : Type 0 where
  pub talked : Talked answers start (pieces input) state held now waits.whole
  pub ready : waits.part ≡ []
  pub carried : carry ≡ take MAX_LINE (unfinished input)

-- no line was read yet
abbrev pub IsNew : Waiting → List ℕ → ℕ → Type 0
IsNew waits carry count = IsEmpty waits × (carry ≡ []) × (count ≡ 0)

-- the first of these lines were replied to, which led to a state of this kind
pub record Stopped {S : Type 0} (answers : Answering S) (start : S) (all : List (List ℕ))
    (leaves : S → Type 0) (held now : Option (List ℕ)) (waits : List ℕ) : Type 0 where
  pub lines : List (List ℕ)
  pub state : S
  pub front : BeginsWith all lines
  pub talked : Talked answers start lines state held now waits
  pub left : leaves state

-- after is state itself, or one that a handler in this state may be left in when it runs out of memory
abbrev pub Fails : {S : Type 0} → (S → S → Type 0) → S → S → Type 0
Fails fails after state = (after ≡ state) ⊎ fails state after

-- the first of these lines were replied to, and the next one ended the conversation
pub record Closed {S : Type 0} (answers : Answering S) (start : S) (all : List (List ℕ)) (after : S)
    (held now : Option (List ℕ)) (waits : List ℕ) : Type 0 where
  pub lines : List (List ℕ)
  pub state : S
  pub talked : Talked answers start lines state held now waits
  pub ended : IsEnded answers all lines state after

-- the result of taking the last bytes of this input; after a failed write some replies are left, and it is not said
-- which
abbrev pub Fed : {S : Type 0} → Answering S → (S → S → Type 0) → S → List ℕ → Option (List ℕ) → Option (List ℕ)
    → Result Goes ConversationError → S → Waiting → List ℕ → Type 0
Fed answers fails start input held now (Ok On) after waits carry = Going answers start input after held now waits carry
Fed answers fails start input held now (Ok Ends) after waits carry
    = Closed answers start (pieces input) after held now waits.whole
Fed answers fails start input held now (Err ReadFailed) after waits carry = ⊥
Fed answers fails start input held now (Err WriteFailed) after waits carry = (rest : List ℕ) × (0 < length rest)
    × Stopped answers start (pieces input) (λ state. after ≡ state) held now rest
Fed answers fails start input held now (Err OutOfMemory) after waits carry
    = Stopped answers start (pieces input) (Fails fails after) held now waits.whole
Fed answers fails start input held now (Err TooManyLines) after waits carry
    = Stopped answers start (pieces input) (λ state. after ≡ state) held now waits.whole

-- the result of these reads, which together are this input, except for the last write
abbrev pub Ran : {S : Type 0} → Answering S → (S → S → Type 0) → S → List (List ℕ) → List ℕ → Option (List ℕ)
    → Option (List ℕ) → Result EndedBy ConversationError → S → List ℕ → Type 0
Ran answers fails start chunks input held now (Ok Input) after waits =
    Talked answers start (lines_of input) after held now waits × (length (lines_of input) + still chunks < LINE_LIMIT)
Ran answers fails start chunks input held now (Ok Handler) after waits
    = Closed answers start (lines_of input) after held now waits
Ran answers fails start chunks input held now (Err ReadFailed) after waits =
    Talked answers start (pieces input) after held now waits × (length (pieces input) + still chunks < LINE_LIMIT)
Ran answers fails start chunks input held now (Err WriteFailed) after waits =
    (rest : List ℕ) × (0 < length rest) × Stopped answers start (lines_of input) (λ state. after ≡ state) held now rest
Ran answers fails start chunks input held now (Err OutOfMemory) after waits
    = Stopped answers start (lines_of input) (Fails fails after) held now waits
Ran answers fails start chunks input held now (Err TooManyLines) after waits =
    Stopped answers start (lines_of input) (λ state. after ≡ state) held now waits
    × (LINE_LIMIT ≤ length (lines_of input) + still chunks)
