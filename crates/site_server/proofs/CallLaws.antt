-- What the responses to a client's requests report to it is what its seat counts.
use Rattle.std.proofs.Common.{◌≡◌, ◌∙◌, ◌⊎◌, ℕ, List, [], ◌∷◌, ◌++◌, append-nil, Bool, true, false, Option, Some, None}
use Rattle.std.proofs.Common.{inl, inr, refl, ap, sym, subst}
use Rattle.http.specs.Request.{body_of}
use Rattle.http_server.specs.Exchange.{Call, Chain}
use Rattle.http_server.specs.declared.response.Response.{Response}
use Rattle.line_streams.specs.Talk.{lines_of}
use Rattle.refusals.specs.Refusals.{LineAnswer}
use Rattle.apply_lanes.specs.Names.{DeskId}
use Rattle.apply_lanes.specs.Kepts.{SeatValue}
use Rattle.site_words.specs.declared.commands.BareCommand.TheVariants.{AtDesk, Tick, RefusedTick, Status, Queue, Quit}
use Rattle.site_words.specs.declared.commands.SiteCommand.{SiteCommand}
use Rattle.site_words.specs.declared.commands.SiteCommand.TheVariants.{Bare, Keyed, BadKey}
use Rattle.site_node.specs.Texts.{reply_text}
use Rattle.site_node.specs.Confirmed.{Turn, ACommand, HasTurns}
use Rattle.site_node.specs.declared.reply.Reply.{Reply}
use Rattle.site_node.specs.declared.reply.Reply.TheVariants.{Number, Spending, Outcome, Refused, BadDeadline}
use Rattle.site_node.specs.declared.reply.Reply.TheVariants.{KeyRefused, KeyReused}
use Rattle.site_core.specs.declared.desk.requests.Spending.TheVariants.{Spent, Queued}
use Rattle.site_node.proofs.ConfirmedLaws.{turns_count}
use Rattle.site_http.specs.Keys.{key_of}
use Rattle.site_http.specs.declared.request_key.RequestKey.{RequestKey}
use Rattle.site_http.specs.declared.request_key.RequestKey.TheVariants.{Absent, Bad, Given}
use Rattle.site_http.specs.Replying.{Answering, AnswersEach, RepliesTo, RepliesToBody, RepliesToOne, bad_command, bad_key}
use Rattle.site_http.specs.Replying.{text_of}
use Rattle.site_http.specs.Responding.{RespondsBy}
use Rattle.site_http.specs.declared.route.Route.{Route}
use Rattle.site_http.specs.declared.route.Route.TheVariants.{Commands, Wait, Status as Shows, Queue as ShowsQueue, Peers as ShowsPeers}
use Rattle.site_http.specs.declared.route.Route.TheVariants.{Log, Metrics, Health, Page, Foreign, Misdirected, NotAllowed, NotFound, BadQuery}
use Rattle.desk_turns.specs.Seated.{SeatedValue}
use Rattle.site_server.specs.Replying.{asked_under, TellsStatus, TellsQueue, TellsPeers, TellsLog}
use Rattle.site_server.specs.Measuring.{TellsMetrics, TellsClosed}
use Rattle.site_server.specs.Settling.{Settles, is_unknown}
use Rattle.site_server.specs.Connections.{ClientValue, Tells, TellsSettled, TellsBy, Answers, Responded}
use Rattle.site_server.specs.Conversations.{IsTurn}
use Rattle.site_server.specs.Requests.{IsSettledTurn, IsQueued, AreTurnsOf, AreBodyTurns, AreRouteTurns, AreCallsTurns}
use Rattle.site_server.specs.Requests.{CountsCalls}
use Rattle.site_server.proofs.ConfirmedTurns.{both}
use Rattle.site_server.proofs.KeyedLaws.{again_turns, keyed_turns}
use Rattle.site_server.proofs.ConfirmedLaws.{turns_of_line}
use Rattle.site_server.proofs.SettleLaws.{keeps_told, cancel_keeps_told, waited_told}

-- a line has turns, which lead from one value of the seat to another
module _ {S : Type 0} (seat : S → SeatValue) (key : Option (List ℕ))
    (is_turn : Option SiteCommand → List ℕ → List Turn → Type 0) (answers : Answering S)
    (one : (old : S) (line : List ℕ) (answer : LineAnswer) (new : S) → answers old line answer new
    → (turns : List Turn) × ((time : Option ℕ) × is_turn (asked_under key time line) answer.text turns)
    × HasTurns (seat old) turns (seat new)) where
  pub turns_of_each : (old : S) (lines : List (List ℕ)) (given : List LineAnswer) (new : S)
      → AnswersEach answers old lines given new
      → (turns : List Turn) × AreTurnsOf key is_turn lines given turns × HasTurns (seat old) turns (seat new)
  turns_of_each old [] given new h
      = subst (λ (r : List LineAnswer). (turns : List Turn) × AreTurnsOf key is_turn [] r turns
      × HasTurns (seat old) turns (seat new)) (sym h.0) ([], refl, ap seat h.1)
  turns_of_each old (line ∷ lines) given new h =
      let first = one old line h.0 h.1 h.3 in
      let rest = turns_of_each h.1 lines h.2 new h.4 in
      subst (λ (r : List LineAnswer). (turns : List Turn) × AreTurnsOf key is_turn (line ∷ lines) r turns
      × HasTurns (seat old) turns (seat new)) (sym h.5) (
        first.0 ++ rest.0,
        (first.0, rest.0, first.1, rest.1, refl),
        both (seat old) (seat h.1) (seat new) first.0 rest.0 first.2 rest.2,
      )

  -- the lines of a body, as far as they were carried out
  pub turns_of_body : (old : S) (lines : List (List ℕ)) (given : List LineAnswer) (code : ℕ) (r : Response) (new : S)
      → RepliesTo answers old lines code given new → r.body.items ≡ text_of given
      → (turns : List Turn) × AreBodyTurns key is_turn lines r turns × HasTurns (seat old) turns (seat new)
  turns_of_body old lines given code r new (inl all) body =
      let found = turns_of_each old lines given new all.each in (
        found.0,
        record {
          carried = lines;
          left = [];
          parted = sym (append-nil lines);
          given = given;
          are_turns = found.1;
          replied = inl body;
        },
        found.2,
      )
  turns_of_body old lines given code r new (inr stop) body =
      let some = stop.some in
      let found = turns_of_each old some.done stop.given new some.each in (
        found.0,
        record {
          carried = some.done;
          left = some.line ∷ some.left;
          parted = some.parted;
          given = stop.given;
          are_turns = found.1;
          replied = inr (body ∙ ap text_of stop.told);
        },
        found.2,
      )

  -- the same if there must be one line
  pub turns_of_one : (refusal : LineAnswer) (old : S) (lines : List (List ℕ)) (given : List LineAnswer) (code : ℕ) (r : Response) (new : S)
      → RepliesToOne answers refusal old lines code given new → r.body.items ≡ text_of given
      → (turns : List Turn) × (AreBodyTurns key is_turn lines r turns ⊎ (turns ≡ [])) × HasTurns (seat old) turns (seat new)
  turns_of_one refusal old [] given code r new h body = ([], inr refl, ap seat h.2)
  turns_of_one refusal old (line ∷ []) given code r new h body =
      let found = turns_of_body old (line ∷ []) given code r new h body in (found.0, inl found.1, found.2)
  turns_of_one refusal old (line ∷ next ∷ lines) given code r new h body = ([], inr refl, ap seat h.2)

settled_text : (HasEnded HasLeft : Type 0) (id : DeskId) (seat : SeatedValue) (reply settled : Reply) (now : SeatedValue)
    (text : List ℕ)
    → Settles HasEnded HasLeft id seat reply settled now → text ≡ reply_text settled → (text ≡ reply_text reply) ⊎ IsQueued reply
settled_text HasEnded HasLeft id seat (Number n) settled now text h says = inl (says ∙ ap reply_text h.0)
settled_text HasEnded HasLeft id seat (Spending (Spent n)) settled now text h says = inl (says ∙ ap reply_text h.0)
settled_text HasEnded HasLeft id seat (Spending (Queued ticket)) settled now text h says = inr (ticket, refl)
settled_text HasEnded HasLeft id seat (Outcome status) settled now text h says = inl (says ∙ ap reply_text h.0)
settled_text HasEnded HasLeft id seat (Refused cause) settled now text h says = inl (says ∙ ap reply_text h.0)
settled_text HasEnded HasLeft id seat BadDeadline settled now text h says = inl (says ∙ ap reply_text h.0)
settled_text HasEnded HasLeft id seat KeyRefused settled now text h says = inl (says ∙ ap reply_text h.0)
settled_text HasEnded HasLeft id seat KeyReused settled now text h says = inl (says ∙ ap reply_text h.0)

-- however the client waits, its seat counts the same
settled_told : (HasEnded HasLeft : Type 0) (id : DeskId) (was : SeatedValue) (reply settled : Reply) (now : SeatedValue)
    → Settles HasEnded HasLeft id was reply settled now → now.told ≡ was.told
settled_told HasEnded HasLeft id was (Number n) settled now h = ap (λ (s : SeatedValue). s.told) h.1
settled_told HasEnded HasLeft id was (Spending (Spent n)) settled now h = ap (λ (s : SeatedValue). s.told) h.1
settled_told HasEnded HasLeft id was (Spending (Queued ticket)) settled now (inl h) =
    keeps_told id h.mid ticket settled now h.at_desk ∙ waited_told id was ticket h.mid h.waited
settled_told HasEnded HasLeft id was (Spending (Queued ticket)) settled now (inr (inl h)) =
    waited_told id was ticket now h.waited
settled_told HasEnded HasLeft id was (Spending (Queued ticket)) settled now (inr (inr h)) =
    cancel_keeps_told id h.mid ticket settled now h.at_desk ∙ waited_told id was ticket h.mid h.waited
settled_told HasEnded HasLeft id was (Outcome status) settled now h = ap (λ (s : SeatedValue). s.told) h.1
settled_told HasEnded HasLeft id was (Refused cause) settled now h = ap (λ (s : SeatedValue). s.told) h.1
settled_told HasEnded HasLeft id was BadDeadline settled now h = ap (λ (s : SeatedValue). s.told) h.1
settled_told HasEnded HasLeft id was KeyRefused settled now h = ap (λ (s : SeatedValue). s.told) h.1
settled_told HasEnded HasLeft id was KeyReused settled now h = ap (λ (s : SeatedValue). s.told) h.1

module _ {P : Type 0} (size : P → ℕ) (sends : P → ℕ → ℕ → P → Type 0)
    (stops : P → ℕ → P → Type 0) (id : DeskId) where
  tells_turns : (command : Option SiteCommand) (was : SeatedValue) (before : P) (answer : LineAnswer)
      (now : SeatedValue) (after : P)
      → Tells size sends stops id command was before answer now after
      → (turns : List Turn) × IsTurn command answer.text turns × HasTurns was.told turns now.told
  tells_turns None was before answer now after h = turns_of_line size sends stops id None was before answer now after h
  tells_turns (Some (Bare (AtDesk command))) was before answer now after h
      = turns_of_line size sends stops id (Some (Bare (AtDesk command))) was before answer now after h
  tells_turns (Some (Keyed key command)) was before answer now after h
      = turns_of_line size sends stops id (Some (Keyed key command)) was before answer now after h
  tells_turns (Some BadKey) was before answer now after h
      = turns_of_line size sends stops id (Some BadKey) was before answer now after h
  tells_turns (Some (Bare (Tick time))) was before answer now after h
      = turns_of_line size sends stops id (Some (Bare (Tick time))) was before answer now after h
  tells_turns (Some (Bare RefusedTick)) was before answer now after h
      = turns_of_line size sends stops id (Some (Bare RefusedTick)) was before answer now after h
  tells_turns (Some (Bare Queue)) was before answer now after h
      = turns_of_line size sends stops id (Some (Bare Queue)) was before answer now after h
  tells_turns (Some (Bare Status)) was before answer now after h
      = turns_of_line size sends stops id (Some (Bare Status)) was before answer now after h
  tells_turns (Some (Bare Quit)) was before answer now after h = ([], refl, ap (λ (s : SeatedValue). s.told) h.1)

  settled_turns : (HasEnded HasLeft : Type 0) (command : Option SiteCommand) (was : SeatedValue) (before : P) (answer : LineAnswer)
      (now : SeatedValue) (after : P)
      → TellsSettled size sends stops HasEnded HasLeft id command was before answer now after
      → (turns : List Turn) × IsSettledTurn command answer.text turns × HasTurns was.told turns now.told
  settled_turns HasEnded HasLeft None was before answer now after h = tells_turns None was before answer now after h
  settled_turns HasEnded HasLeft (Some (Bare (AtDesk command))) was before answer now after h =
      let c = h.0 in (
        ACommand command c.reply ∷ [],
        (c.reply, refl, settled_text HasEnded HasLeft id c.half c.reply c.settled now answer.text c.settles c.says),
        (c.half.told, (c.at_desk.old, c.at_desk.new, c.at_desk.acts), settled_told HasEnded HasLeft id c.half c.reply c.settled now c.settles),
      )
  settled_turns HasEnded HasLeft (Some (Keyed key command)) was before answer now after h =
      let c = h.0 in
      let first = keyed_turns id was key command c.reply c.half c.at_desk in
      let same = settled_told HasEnded HasLeft id c.half c.reply c.waited c.last c.settles in
      let half = subst (λ (s : SeatValue). HasTurns was.told first.0 s) (sym same) first.2 in
      let last = again_turns (is_unknown c.waited) id c.last key command c.waited c.told now c.again in (
        first.0 ++ last.0,
        (c.told, first.0, last.0, (c.reply, first.1), (c.told, last.1), refl, c.says),
        both was.told c.last.told now.told first.0 last.0 half last.2,
      )
  settled_turns HasEnded HasLeft (Some BadKey) was before answer now after h
      = tells_turns (Some BadKey) was before answer now after h
  settled_turns HasEnded HasLeft (Some (Bare (Tick time))) was before answer now after h
      = tells_turns (Some (Bare (Tick time))) was before answer now after h
  settled_turns HasEnded HasLeft (Some (Bare RefusedTick)) was before answer now after h
      = tells_turns (Some (Bare RefusedTick)) was before answer now after h
  settled_turns HasEnded HasLeft (Some (Bare Queue)) was before answer now after h
      = tells_turns (Some (Bare Queue)) was before answer now after h
  settled_turns HasEnded HasLeft (Some (Bare Status)) was before answer now after h
      = tells_turns (Some (Bare Status)) was before answer now after h
  settled_turns HasEnded HasLeft (Some (Bare Quit)) was before answer now after h = tells_turns (Some (Bare Quit)) was before answer now after h

  module _ {B : Type 0} (has_ended has_left : B → Type 0) (shows : B → Option ℕ → Type 0) where
    -- the command of a line had this effect
    pub answers_line : (key : Option (List ℕ)) (waits : Bool) (command : Option SiteCommand) (line : List ℕ) (answer : LineAnswer) (old new : ClientValue P B)
        → (time : Option ℕ) × shows old.signal time × (command ≡ asked_under key time line)
        → TellsBy size sends stops waits (has_ended old.signal) (has_left old.signal) id command old.seat old.peers answer
        new.seat new.peers
        → Answers size sends stops has_ended has_left shows id key waits old line answer new
    answers_line key waits command line answer old new spelled h =
        record {
          time = spelled.0;
          shown = spelled.1;
          tells = subst (λ (c : Option SiteCommand). TellsBy size sends stops waits (has_ended old.signal) (has_left old.signal)
              id c old.seat old.peers answer new.seat new.peers) spelled.2 h;
        }

    one : (key : Option (List ℕ)) (old : ClientValue P B) (line : List ℕ) (answer : LineAnswer) (new : ClientValue P B)
        → Answers size sends stops has_ended has_left shows id key false old line answer new
        → (turns : List Turn) × ((time : Option ℕ) × IsTurn (asked_under key time line) answer.text turns)
        × HasTurns old.seat.told turns new.seat.told
    one key old line answer new h =
        let found = tells_turns (asked_under key h.time line) old.seat old.peers answer new.seat new.peers h.tells in
        (found.0, (h.time, found.1), found.2)

    one_settled : (key : Option (List ℕ)) (old : ClientValue P B) (line : List ℕ) (answer : LineAnswer) (new : ClientValue P B)
        → Answers size sends stops has_ended has_left shows id key true old line answer new
        → (turns : List Turn) × ((time : Option ℕ) × IsSettledTurn (asked_under key time line) answer.text turns)
        × HasTurns old.seat.told turns new.seat.told
    one_settled key old line answer new h =
        let found = settled_turns (has_ended old.signal) (has_left old.signal) (asked_under key h.time line) old.seat old.peers answer new.seat new.peers
        h.tells in (found.0, (h.time, found.1), found.2)

    turns_of_commands : (key : RequestKey) (old : ClientValue P B) (body : List ℕ) (code : ℕ) (given : List LineAnswer)
        (r : Response) (new : ClientValue P B)
        → RepliesToBody (Answers size sends stops has_ended has_left shows id) key false old (lines_of body) code given new
        → r.body.items ≡ text_of given
        → (turns : List Turn) × AreRouteTurns Commands key body r turns × HasTurns old.seat.told turns new.seat.told
    turns_of_commands Bad old body code given r new h text =
        ([], inr refl, ap (λ (c : ClientValue P B). c.seat.told) h.2)
    turns_of_commands (Given key) old body code given r new h text =
        turns_of_one (λ c. c.seat.told) (Some key) IsTurn
        (Answers size sends stops has_ended has_left shows id (Some key) false) (one (Some key)) bad_key old (lines_of body)
        given code r new h text
    turns_of_commands Absent old body code given r new h text =
        let found = turns_of_body (λ c. c.seat.told) None IsTurn
        (Answers size sends stops has_ended has_left shows id None false) (one None) old (lines_of body) given code r new h
        text in
        (found.0, inl found.1, found.2)

    turns_of_wait : (key : RequestKey) (old : ClientValue P B) (body : List ℕ) (code : ℕ) (given : List LineAnswer)
        (r : Response) (new : ClientValue P B)
        → RepliesToBody (Answers size sends stops has_ended has_left shows id) key true old (lines_of body) code given new
        → r.body.items ≡ text_of given
        → (turns : List Turn) × AreRouteTurns Wait key body r turns × HasTurns old.seat.told turns new.seat.told
    turns_of_wait Bad old body code given r new h text =
        ([], inr refl, ap (λ (c : ClientValue P B). c.seat.told) h.2)
    turns_of_wait (Given key) old body code given r new h text =
        turns_of_one (λ c. c.seat.told) (Some key) IsSettledTurn
        (Answers size sends stops has_ended has_left shows id (Some key) true) (one_settled (Some key)) bad_key old
        (lines_of body) given code r new h text
    turns_of_wait Absent old body code given r new h text =
        turns_of_one (λ c. c.seat.told) None IsSettledTurn
        (Answers size sends stops has_ended has_left shows id None true) (one_settled None) bad_command old (lines_of body)
        given code r new h text

    turns_of_route : (old : ClientValue P B) (route : Route) (key : RequestKey) (body : List ℕ) (r : Response)
        (new : ClientValue P B)
        → RespondsBy (Answers size sends stops has_ended has_left shows id) (λ client text. TellsStatus id text)
        (λ client text. TellsQueue id text) (λ client text. TellsPeers id text) (λ client first text. TellsLog id first text)
        (λ client text. TellsMetrics id text) (λ client is_closed. TellsClosed id is_closed) old route key body r new
        → (turns : List Turn) × AreRouteTurns route key body r turns × HasTurns old.seat.told turns new.seat.told
    turns_of_route old Commands key body r new h =
        turns_of_commands key old body h.code h.given r new h.replied h.response.body
    turns_of_route old Wait key body r new h =
        turns_of_wait key old body h.code h.given r new h.replied h.response.body
    turns_of_route old Shows key body r new h = ([], refl, ap (λ (c : ClientValue P B). c.seat.told) h.1)
    turns_of_route old ShowsQueue key body r new h = ([], refl, ap (λ (c : ClientValue P B). c.seat.told) h.1)
    turns_of_route old ShowsPeers key body r new h = ([], refl, ap (λ (c : ClientValue P B). c.seat.told) h.1)
    turns_of_route old (Log first) key body r new h = ([], refl, ap (λ (c : ClientValue P B). c.seat.told) h.1)
    turns_of_route old Metrics key body r new h = ([], refl, ap (λ (c : ClientValue P B). c.seat.told) h.1)
    turns_of_route old Health key body r new h = ([], refl, ap (λ (c : ClientValue P B). c.seat.told) h.1)
    turns_of_route old Page key body r new h = ([], refl, ap (λ (c : ClientValue P B). c.seat.told) h.1)
    turns_of_route old Foreign key body r new h = ([], refl, ap (λ (c : ClientValue P B). c.seat.told) h.1)
    turns_of_route old Misdirected key body r new h = ([], refl, ap (λ (c : ClientValue P B). c.seat.told) h.1)
    turns_of_route old (NotAllowed allowed) key body r new h = ([], refl, ap (λ (c : ClientValue P B). c.seat.told) h.1)
    turns_of_route old NotFound key body r new h = ([], refl, ap (λ (c : ClientValue P B). c.seat.told) h.1)
    turns_of_route old BadQuery key body r new h = ([], refl, ap (λ (c : ClientValue P B). c.seat.told) h.1)

    turns_of_calls : (names : List (List ℕ)) (old : ClientValue P B) (calls : List Call) (new : ClientValue P B)
        → Chain (Responded size sends stops has_ended has_left shows id names) old calls new
        → (turns : List Turn) × AreCallsTurns names calls turns × HasTurns old.seat.told turns new.seat.told
    turns_of_calls names old [] new h = ([], refl, ap (λ (c : ClientValue P B). c.seat.told) h)
    turns_of_calls names old (call ∷ calls) new h =
        let next = h.0 in
        let first = turns_of_route old h.1.0 (key_of call.0) (body_of call.0) call.1 next h.1.2 in
        let rest = turns_of_calls names next calls new h.2 in (
          first.0 ++ rest.0,
          (first.0, rest.0, (h.1.0, h.1.1, first.1), rest.1, refl),
          both old.seat.told next.seat.told new.seat.told first.0 rest.0 first.2 rest.2,
        )

    pub counts_calls : (names : List (List ℕ)) (old : ClientValue P B) (calls : List Call) (new : ClientValue P B)
        → Chain (Responded size sends stops has_ended has_left shows id names) old calls new
        → CountsCalls names old.seat.told calls new.seat.told
    counts_calls names old calls new h =
        let found = turns_of_calls names old calls new h in
        record {
          turns = found.0;
          are_turns = found.1;
          has_turns = found.2;
          counted = turns_count old.seat.told found.0 new.seat.told found.2;
        }
