-- The requests of a connection and their responses, as the turns that the client's seat counts.
use Rattle.std.specs.Prelude.{◌≡◌, ◌⊎◌, ℕ, List, [], ◌∷◌, ◌++◌, Option, Some, None}
use Rattle.http.specs.declared.request.Request.{Request}
use Rattle.http.specs.Request.{body_of}
use Rattle.http_server.specs.Exchange.{Call}
use Rattle.http_server.specs.declared.response.Response.{Response}
use Rattle.line_streams.specs.Talk.{lines_of}
use Rattle.refusals.specs.Refusals.{LineAnswer}
use Rattle.site_core.specs.declared.desk.requests.Spending.TheVariants.{Queued}
use Rattle.apply_lanes.specs.Kepts.{SeatValue}
use Rattle.site_words.specs.declared.commands.DeskCommand.{DeskCommand}
use Rattle.site_words.specs.declared.commands.BareCommand.TheVariants.{AtDesk}
use Rattle.site_words.specs.declared.commands.SiteCommand.{SiteCommand}
use Rattle.site_words.specs.declared.commands.SiteCommand.TheVariants.{Bare, Keyed}
use Rattle.site_node.specs.Texts.{reply_text}
use Rattle.site_node.specs.Confirmed.{Turn, ACommand, HasTurns, CountsConfirmed}
use Rattle.site_node.specs.declared.reply.Reply.{Reply}
use Rattle.site_node.specs.declared.reply.Reply.TheVariants.{Spending}
use Rattle.site_http.specs.Replying.{text_of, no_memory}
use Rattle.site_http.specs.Routing.{Leads}
use Rattle.site_http.specs.declared.route.Route.{Route}
use Rattle.site_http.specs.declared.route.Route.TheVariants.{Commands, Wait}
use Rattle.site_http.specs.Keys.{key_of}
use Rattle.site_http.specs.declared.request_key.RequestKey.{RequestKey}
use Rattle.site_http.specs.declared.request_key.RequestKey.TheVariants.{Given}
use Rattle.site_server.specs.Replying.{asked_under}
use Rattle.site_server.specs.Conversations.{IsTurn}

-- the spend waits
abbrev pub IsQueued : Reply → Type 0
IsQueued reply = (ticket : ℕ) × (reply ≡ Spending (Queued ticket))

-- one turn that carried out the command, or none
abbrev pub MayCarryOut : DeskCommand → List Turn → Type 0
MayCarryOut command turns = (reply : Reply) × ((turns ≡ ACommand command reply ∷ []) ⊎ (turns ≡ []))

-- the turns of a line whose client waits: it gets the reply, or for a queued spend the outcome; under a key it may ask twice
abbrev pub IsSettledTurn : Option SiteCommand → List ℕ → List Turn → Type 0
IsSettledTurn (Some (Bare (AtDesk command))) text turns =
    (reply : Reply) × (turns ≡ ACommand command reply ∷ []) × ((text ≡ reply_text reply) ⊎ IsQueued reply)
IsSettledTurn (Some (Keyed key command)) text turns =
    (told : Reply) × (first : List Turn) × (last : List Turn) × MayCarryOut command first × MayCarryOut command last
    × (turns ≡ first ++ last) × (text ≡ reply_text told)
IsSettledTurn command text turns = IsTurn command text turns

module _ (key : Option (List ℕ)) (is_turn : Option SiteCommand → List ℕ → List Turn → Type 0) where
  -- the turns of these lines with these answers
  abbrev pub AreTurnsOf : List (List ℕ) → List LineAnswer → List Turn → Type 0
  AreTurnsOf [] [] turns = turns ≡ []
  AreTurnsOf (line ∷ lines) (answer ∷ given) turns =
      (first : List Turn) × (rest : List Turn)
      × ((time : Option ℕ) × is_turn (asked_under key time line) answer.text first) × AreTurnsOf lines given rest
      × (turns ≡ first ++ rest)
  AreTurnsOf lines given turns = ⊥

  -- the first of these lines were carried out, and the response has their replies; after them at most a refusal for
  -- lack of memory
  pub record AreBodyTurns (lines : List (List ℕ)) (r : Response) (turns : List Turn) : Type 0 where
    pub carried : List (List ℕ)
    pub left : List (List ℕ)
    pub parted : lines ≡ carried ++ left
    pub given : List LineAnswer
    pub are_turns : AreTurnsOf carried given turns
    pub replied : (r.body.items ≡ text_of given) ⊎ (r.body.items ≡ text_of (given ++ no_memory ∷ []))

-- the key of a request, if it has a good one
abbrev pub key_given : RequestKey → Option (List ℕ)
key_given (Given key) = Some key
key_given other = None

-- the turns of a request and its response, by its route and its key; a body that is refused whole has none
abbrev pub AreRouteTurns : Route → RequestKey → List ℕ → Response → List Turn → Type 0
AreRouteTurns Commands key body r turns =
    AreBodyTurns (key_given key) IsTurn (lines_of body) r turns ⊎ (turns ≡ [])
AreRouteTurns Wait key body r turns =
    AreBodyTurns (key_given key) IsSettledTurn (lines_of body) r turns ⊎ (turns ≡ [])
AreRouteTurns route key body r turns = turns ≡ []

-- .. at a site whose host has these names
abbrev pub AreCallTurns : List (List ℕ) → Request (List ℕ) → Response → List Turn → Type 0
AreCallTurns names request r turns =
    (route : Route) × Leads names request route × AreRouteTurns route (key_of request) (body_of request) r turns

-- the turns of all requests, one after another
abbrev pub AreCallsTurns : List (List ℕ) → List Call → List Turn → Type 0
AreCallsTurns names [] turns = turns ≡ []
AreCallsTurns names (call ∷ calls) turns =
    (first : List Turn) × (rest : List Turn) × AreCallTurns names call.0 call.1 first × AreCallsTurns names calls rest
    × (turns ≡ first ++ rest)

-- what the responses to these requests report to the client as issued and as spent is what its seat counts in addition
pub record CountsCalls (names : List (List ℕ)) (was : SeatValue) (calls : List Call)
    (now : SeatValue) : Type 0 where
  pub turns : List Turn
  pub are_turns : AreCallsTurns names calls turns
  pub has_turns : HasTurns was turns now
  pub counted : CountsConfirmed was turns now
