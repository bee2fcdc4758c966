-- The effect of the lines of a connection on the intake and on the port.
use Rattle.std.specs.Prelude.{◌≡◌, ◌≢◌, ℕ, ◌+◌, ◌<◌, ◌≤◌, ◌⊎◌, Bool, true, List, [], ◌∷◌, ◌++◌, length, Option}
use Rattle.std.specs.Prelude.{Some, None, is_some, Result, Ok, Err, IsErr, IfErr}
use Rattle.rights_types.specs.Messages.{MessageValue, QueryValue, BeatValue}
use Rattle.rights_types.specs.Messages.MessageValue.{AQuery}
use Rattle.rights_types.specs.declared.limits.TheConstants.{MAX_LINE}
use Rattle.rights_types.specs.declared.fault.OutOfMemory.{OutOfMemory}
use Rattle.entry_codec.specs.Pieces.{pieces_after, unfinished}
use Rattle.entry_codec.specs.Cutter.{CutterView}
use Rattle.entry_codec.specs.Reading.{reading, has_entries}
use Rattle.entry_codec.specs.Spelling.{Spells}
use Rattle.sub_buffer.specs.Gaps.{GapOf, StateOf}
use Rattle.sub_buffer.specs.declared.buffer.State.{State}
use Rattle.inbound.specs.Inbounds.{QueryOf}
use Rattle.inbound.specs.declared.fault.InboundError.TheVariants.{OutOfMemory as LineWants}
use Rattle.line_streams.specs.declared.limit.TheConstants.{LINE_LIMIT}
use Rattle.link_intake.specs.Intakes.{IntakeValue, IntakeRefuses, LineLeaves}
use Rattle.link_intake.specs.declared.intake.Arrived.{Arrived}
use Rattle.link_intake.specs.declared.intake.Arrived.TheVariants.{Beat, Message}
use Rattle.link_intake.specs.declared.intake.IntakeError.{IntakeError}
use Rattle.link_intake.specs.declared.intake.IntakeError.TheVariants.{Inbound, LaneClosed as FoundClosed}
use Rattle.peer_links.specs.Links.{IsFedAll}
use Rattle.peer_links.specs.Turns.{InTurn}
use Rattle.peer_links.specs.Ports.{Heard}
use Rattle.peer_links.specs.Ports.Heard.{AMessage, ALine, AState}
use Rattle.link_intake.specs.declared.desk_message.DeskMessage.{DeskMessage}
use Rattle.peer_links.specs.declared.link.LinkFault.{LinkFault}
use Rattle.peer_links.specs.declared.link.LinkFault.TheVariants.{ReadFailed, TooManyLines, LaneClosed}
use Rattle.peer_links.specs.declared.link.LinkFault.TheVariants.{OutOfMemory as NoMemory}

-- the pieces that end in these bytes, which follow this stream
abbrev pub pieces_behind : List ℕ → List ℕ → List (List ℕ)
pieces_behind stream bytes = pieces_after (unfinished stream) bytes

-- a line that began before these bytes ends in them
pub record EndsBegun (stream bytes : List ℕ) : Type 0 where
  pub begun : 0 < length (unfinished stream)
  pub ends : pieces_behind stream bytes ≢ []

-- ---- one line

-- the message of a line for the desk, if it has one
abbrev pub message_in : Arrived → Option DeskMessage
message_in (Message m) = Some m
message_in arrived = None

-- the beat of a line, if it is one
abbrev pub beat_in : Arrived → Option BeatValue
beat_in (Beat b) = Some b
beat_in arrived = None

-- the line is a message with entries
abbrev pub HasEntries : List ℕ → Type 0
HasEntries line = (m : MessageValue) × (reading line ≡ Ok m) × (has_entries m ≡ true)

-- the result where the intake takes nothing in: a line that it refuses for a cause other than memory is skipped
abbrev pub after_refusal : IntakeError → Result (Unit {0}) LinkFault
after_refusal (Inbound LineWants) = Err NoMemory
after_refusal (Inbound fault) = Ok tt
after_refusal FoundClosed = Err LaneClosed

-- after a beat the same gap is queried again
abbrev pub asks_again : Arrived → Bool
asks_again arrived = is_some (beat_in arrived)

-- the port received the message, if there is one
abbrev pub HearsMessage : {S : Type 0} → (S → Heard → S → Type 0) → S → Option DeskMessage
    → Result (Unit {0}) OutOfMemory → S → Type 0
HearsMessage hears old None told new = (told ≡ Ok tt) × (new ≡ old)
HearsMessage hears old (Some m) told new = hears old (AMessage m told) new

-- the port receives the line of the query, unless there is no memory for it
abbrev pub HearsQuery : Option QueryValue → Result (Unit {0}) OutOfMemory → List Heard → Type 0
HearsQuery None (Ok _) heard = heard ≡ []
HearsQuery None (Err _) heard = ⊥
HearsQuery (Some q) (Ok _) heard = (text : List ℕ) × Spells (AQuery q) text × (heard ≡ ALine text ∷ [])
HearsQuery (Some q) (Err _) heard = heard ≡ []

-- lack of memory ends a connection
abbrev pub as_fault : Result (Unit {0}) OutOfMemory → Result (Unit {0}) LinkFault
as_fault (Ok x) = Ok x
as_fault (Err _) = Err NoMemory

module _ {A : Type 0} where
  -- the gap is queried, if there is one to query
  pub record AsksGap (old : IntakeValue A) (again : Bool) (asked : Result (Unit {0}) OutOfMemory) (heard : List Heard)
      (new : IntakeValue A) : Type 0 where
    pub query : Option QueryValue
    pub asks : QueryOf old.inbound again query new.inbound
    pub rest : new ≡ record old { inbound = new.inbound }
    pub hears : HearsQuery query asked heard

  -- the gap is queried, unless there was no memory for the message
  abbrev pub AsksThen : Result (Unit {0}) OutOfMemory → IntakeValue A → Bool → Result (Unit {0}) LinkFault → List Heard
      → IntakeValue A → Type 0
  AsksThen (Ok _) old again result heard new =
      (asked : Result (Unit {0}) OutOfMemory) × AsksGap old again asked heard new × (result ≡ as_fault asked)
  AsksThen (Err _) old again result heard new = (result ≡ Err NoMemory) × (heard ≡ []) × (new ≡ old)

  -- the port receives the message for the desk, if there is one, and then the gap is queried
  abbrev pub HandsOver : IntakeValue A → Option DeskMessage → Bool → Result (Unit {0}) LinkFault → List Heard
      → IntakeValue A → Type 0
  HandsOver old None again result heard new = AsksThen (Ok tt) old again result heard new
  HandsOver old (Some m) again result heard new =
      (told : Result (Unit {0}) OutOfMemory) × (rest : List Heard) × (heard ≡ AMessage m told ∷ rest)
      × AsksThen told old again result rest new

  -- what follows the intake's result
  abbrev pub Follows : IntakeValue A → Result Arrived IntakeError → Result (Unit {0}) LinkFault → List Heard
      → IntakeValue A → Type 0
  Follows old (Ok arrived) result heard new = HandsOver old (message_in arrived) (asks_again arrived) result heard new
  Follows old (Err fault) result heard new = (result ≡ after_refusal fault) × (heard ≡ []) × (new ≡ old)

  -- the intake took the line, and the port received what came of it
  pub record TakesLine (old : IntakeValue A) (line : List ℕ) (result : Result (Unit {0}) LinkFault) (heard : List Heard)
      (new : IntakeValue A) : Type 0 where
    pub came : Result Arrived IntakeError
    pub mid : IntakeValue A
    pub refused : IntakeRefuses old.inbound (reading line) came
    pub leaves : LineLeaves old (reading line) came mid
    pub dead : old.inlet.dead ≡ true → IsErr came × (mid.inlet ≡ old.inlet)
    -- only entries take memory
    pub memory : IfErr came (λ fault. fault ≡ Inbound LineWants → HasEntries line)
    pub follows : Follows mid came result heard new

  -- ---- one piece

  -- a piece that is too long for a line is skipped
  abbrev pub TakesOrSkips : IntakeValue A → List ℕ → Result (Unit {0}) LinkFault → List Heard → IntakeValue A → Type 0
  TakesOrSkips old piece result heard new =
      ((length piece ≤ MAX_LINE) × TakesLine old piece result heard new)
      ⊎ ((MAX_LINE < length piece) × (result ≡ Ok tt) × (heard ≡ []) × (new ≡ old))

  -- the port receives whether entries are missing, and how many are held
  abbrev pub Shows : IntakeValue A → Heard → Type 0
  Shows i heard = (gap : Option QueryValue) × (state : State) × GapOf i.inbound.buffer gap × StateOf gap state
      × (heard ≡ AState state (length i.inbound.buffer.held))

  -- the piece was taken, and then the port received the state of the intake
  pub record TakesPiece (old : IntakeValue A) (piece : List ℕ) (result : Result (Unit {0}) LinkFault)
      (heard : List Heard) (new : IntakeValue A) : Type 0 where
    pub told : List Heard
    pub shown : Heard
    pub takes : TakesOrSkips old piece result told new
    pub shows : Shows new shown
    pub whole : heard ≡ told ++ shown ∷ []

  -- ---- many

  -- these pieces were taken in order
  abbrev pub Takes : IntakeValue A → List (List ℕ) → List Heard → IntakeValue A → Type 0
  Takes old [] heard new = (heard ≡ []) × (new ≡ old)
  Takes old (piece ∷ pieces) heard new =
      (mid : IntakeValue A) × (first : List Heard) × (rest : List Heard)
      × TakesPiece old piece (Ok tt) first mid × Takes mid pieces rest new × (heard ≡ first ++ rest)

  -- these pieces were taken in order, and the last of them failed
  pub record Breaks (old : IntakeValue A) (pieces : List (List ℕ)) (fault : LinkFault) (heard : List Heard)
      (new : IntakeValue A) : Type 0 where
    pub front : List (List ℕ)
    pub last : List ℕ
    pub cut : pieces ≡ front ++ last ∷ []
    pub mid : IntakeValue A
    pub first : List Heard
    pub rest : List Heard
    pub takes : Takes old front first mid
    pub breaks : TakesPiece mid last (Err fault) rest new
    pub whole : heard ≡ first ++ rest

  -- these pieces were taken before this fault, and the rest was not: at TooManyLines, their number and what was
  -- counted before reach the limit; at NoMemory, memory was refused for the first line of the rest, or for handling
  -- the last of these
  abbrev pub Stops : ℕ → IntakeValue A → List (List ℕ) → List (List ℕ) → LinkFault → List Heard → IntakeValue A → Type 0
  Stops besides old pieces rest TooManyLines heard new = Takes old pieces heard new
      × (besides + length pieces ≡ LINE_LIMIT)
  Stops besides old pieces rest LaneClosed heard new = Breaks old pieces LaneClosed heard new
  Stops besides old pieces rest NoMemory heard new = (Takes old pieces heard new × (rest ≢ []))
      ⊎ Breaks old pieces NoMemory heard new
  Stops besides old pieces rest fault heard new = ⊥

  -- all of these pieces were taken, or a prefix of them before a fault
  abbrev pub TakesTo : ℕ → IntakeValue A → List (List ℕ) → Result (Unit {0}) LinkFault → List Heard
      → IntakeValue A → Type 0
  TakesTo besides old pieces (Ok _) heard new = Takes old pieces heard new
  TakesTo besides old pieces (Err ReadFailed) heard new = Takes old pieces heard new
  TakesTo besides old pieces (Err fault) heard new =
      (front : List (List ℕ)) × (rest : List (List ℕ)) × (front ++ rest ≡ pieces)
      × Stops besides old front rest fault heard new

-- the pieces of this input, after all that the cutter was fed, were taken, and the port received what they say
abbrev pub TakesInput : {A S : Type 0} → (S → Heard → S → Type 0) → ℕ → CutterView → List ℕ → IntakeValue A → S
    → Result (Unit {0}) LinkFault → IntakeValue A → S → Type 0
TakesInput hears besides cutter input old before result new after =
    (stream : List ℕ) → IsFedAll cutter stream
    → (heard : List Heard) × TakesTo besides old (pieces_behind stream input) result heard new
    × InTurn hears before heard after
