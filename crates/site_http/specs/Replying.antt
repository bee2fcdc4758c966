-- The replies to the lines of a body.
use Rattle.std.specs.Prelude.{◌≡◌, ℕ, ◌-◌, ◌<◌, ◌≤◌, ◌⊎◌, Bool, true, false, List, [], ◌∷◌, ◌++◌, length, take}
use Rattle.std.specs.Prelude.{flat_map, Option, Some, None}
use Rattle.bytes.specs.Filled.{Filled}
use Rattle.refusals.specs.Refusals.{LineAnswer, refusal_text}
use Rattle.refusals.specs.declared.refusal.Refusal.{Refusal}
use Rattle.refusals.specs.declared.refusal.Refusal.TheVariants.{BadCommand, BadKey, OutOfMemory}
use Rattle.refusals.specs.declared.answered.Answered.{Answered}
use Rattle.refusals.specs.declared.answered.Answered.TheVariants.{Done, Refused}
use Rattle.line_streams.specs.Waiting.{Waiting}
use Rattle.site_http.specs.declared.request_key.RequestKey.{RequestKey}
use Rattle.site_http.specs.declared.request_key.RequestKey.TheVariants.{Absent, Bad, Given}
use Rattle.site_http.specs.declared.replying.TheConstants.{LAST_ROOM, MAX_REPLIES}

-- in the first state, this line with its line feed gets this answer, and leads to the second state
abbrev pub Answering : Type 0 → Type 1
Answering S = S → List ℕ → LineAnswer → S → Type 0

-- the answer that reports this refusal
abbrev pub refused : Refusal → LineAnswer
refused why = record { text = refusal_text why; how = Refused why }

-- the answer to a line that spells no command
abbrev pub bad_command : LineAnswer
bad_command = refused BadCommand

-- the answer to a bad key, and to a key whose body has other than one line
abbrev pub bad_key : LineAnswer
bad_key = refused BadKey

-- the answer to a command that was not carried out for lack of memory
abbrev pub no_memory : LineAnswer
no_memory = refused OutOfMemory

-- the status of a response to one line, by how it was answered
abbrev pub status_of : Answered → ℕ
status_of Done = 200
status_of (Refused BadCommand) = 400
status_of (Refused BadKey) = 400
status_of (Refused OutOfMemory) = 503
status_of (Refused why) = 409

-- .. and of one to several
abbrev pub status_of_all : List LineAnswer → ℕ
status_of_all (answer ∷ []) = status_of answer.how
status_of_all answers = 200

-- the replies one after another, each with its line feed
abbrev pub text_of : List LineAnswer → List ℕ
text_of answers = flat_map (λ (a : LineAnswer). a.text ++ 10 ∷ []) answers

-- all answers but the last
abbrev pub but_last : List LineAnswer → List LineAnswer
but_last answers = take (length answers - 1) answers

-- each line began below the limit: the replies before the last one have fewer bytes
abbrev pub WithinLimit : List LineAnswer → Type 0
WithinLimit answers = length (text_of (but_last answers)) < MAX_REPLIES

-- nothing of a body is carried out, and this answer says why
abbrev pub RefusesBody : {S : Type 0} → LineAnswer → S → ℕ → List LineAnswer → S → Type 0
RefusesBody answer old code given new = (code ≡ 400) × (given ≡ answer ∷ []) × (new ≡ old)

module _ {S : Type 0} (answers : Answering S) where
  -- each line got its answer, in order
  abbrev pub AnswersEach : S → List (List ℕ) → List LineAnswer → S → Type 0
  AnswersEach old [] given new = (given ≡ []) × (new ≡ old)
  AnswersEach old (line ∷ lines) given new =
      (answer : LineAnswer) × (mid : S) × (others : List LineAnswer)
      × answers old line answer mid × AnswersEach mid lines others new × (given ≡ answer ∷ others)

  -- all lines were answered
  pub record AnswersAll (old : S) (lines : List (List ℕ)) (code : ℕ) (given : List LineAnswer) (new : S) : Type 0 where
    pub each : AnswersEach old lines given new
    pub within : WithinLimit given
    pub status : code ≡ status_of_all given

  -- the first lines got these answers, and at least one line is left
  pub record AnswersSome (old : S) (lines : List (List ℕ)) (given : List LineAnswer) (new : S) : Type 0 where
    pub done : List (List ℕ)
    pub line : List ℕ
    pub left : List (List ℕ)
    pub parted : lines ≡ done ++ line ∷ left
    pub each : AnswersEach old done given new
    pub within : WithinLimit given

  -- at a line memory ran out, or the replies had reached their limit: those before it were answered, its answer says
  -- so, and neither it nor those after it were carried out
  pub record StopsAt (old : S) (lines : List (List ℕ)) (code : ℕ) (all : List LineAnswer) (new : S) : Type 0 where
    pub given : List LineAnswer
    pub some : AnswersSome old lines given new
    pub told : all ≡ given ++ no_memory ∷ []
    pub status : code ≡ 503

  -- these answers, with this status, are the response to the lines of a body
  abbrev pub RepliesTo : S → List (List ℕ) → ℕ → List LineAnswer → S → Type 0
  RepliesTo old lines code given new = AnswersAll old lines code given new ⊎ StopsAt old lines code given new

  -- the same for a body that must have exactly one line: any other is refused by this answer
  abbrev pub RepliesToOne : LineAnswer → S → List (List ℕ) → ℕ → List LineAnswer → S → Type 0
  RepliesToOne refusal old (line ∷ []) code given new = RepliesTo old (line ∷ []) code given new
  RepliesToOne refusal old lines code given new = RefusesBody refusal old code given new

-- the response to the lines of a body, by what its request says of a key, and by whether its client waits for the
-- outcome. A bad key is refused whatever the lines are; with a key, or if the client waits, there must be exactly one
-- line, and a key is refused first
abbrev pub RepliesToBody : {S : Type 0} → (Option (List ℕ) → Bool → Answering S) → RequestKey → Bool
    → S → List (List ℕ) → ℕ → List LineAnswer → S → Type 0
RepliesToBody answers Bad waits old lines code given new = RefusesBody bad_key old code given new
RepliesToBody answers (Given key) waits old lines code given new =
    RepliesToOne (answers (Some key) waits) bad_key old lines code given new
RepliesToBody answers Absent true old lines code given new =
    RepliesToOne (answers None true) bad_command old lines code given new
RepliesToBody answers Absent false old lines code given new = RepliesTo (answers None false) old lines code given new

-- the reply was appended, as the whole replies have it, and there is memory for one more
pub record IsPut (reply : List ℕ) (replies : Waiting) (old new : Filled) : Type 0 where
  pub whole : replies.whole ≡ reply ++ 10 ∷ []
  pub text : new.items ≡ old.items ++ (reply ++ 10 ∷ [])
  pub room : LAST_ROOM ≤ new.spare

-- nothing was appended, and there is no less memory
pub record KeepsRoom (old new : Filled) : Type 0 where
  pub text : new.items ≡ old.items
  pub room : old.spare ≤ new.spare
