-- What the replies to a client's lines report to it is what its seat counts.
use Rattle.std.proofs.Common.{◌≡◌, ℕ, List, [], ◌∷◌, ◌++◌, Option, Some, None, Result, Ok, Err, inl, inr, refl, ap, sym, ◌∙◌}
use Rattle.std.proofs.Common.{subst}
use Rattle.line_streams.specs.Handling.{Answering, LineGets, LinesGet}
use Rattle.line_streams.specs.Talk.{Talk, Leaves}
use Rattle.line_streams.specs.Waiting.{Waiting}
use Rattle.line_streams.specs.declared.fault.ConversationError.{ConversationError}
use Rattle.line_streams.specs.declared.fault.ConversationError.TheVariants.{ReadFailed, WriteFailed, OutOfMemory}
use Rattle.line_streams.specs.declared.fault.ConversationError.TheVariants.{TooManyLines}
use Rattle.line_streams.specs.declared.handler.EndedBy.{EndedBy}
use Rattle.line_streams.specs.declared.handler.EndedBy.TheVariants.{Input, Handler}
use Rattle.line_streams.specs.declared.handler.Goes.{Goes}
use Rattle.line_streams.specs.declared.handler.Goes.TheVariants.{On, Ends}
use Rattle.refusals.specs.Refusals.{LineAnswer}
use Rattle.refusals.specs.declared.answered.Answered.{Answered}
use Rattle.apply_lanes.specs.Names.{DeskId}
use Rattle.apply_lanes.specs.Kepts.{SeatValue}
use Rattle.site_words.specs.declared.commands.BareCommand.TheVariants.{AtDesk, Tick, RefusedTick, Status, Queue, Quit}
use Rattle.site_words.specs.declared.commands.SiteCommand.{SiteCommand}
use Rattle.site_words.specs.declared.commands.SiteCommand.TheVariants.{Bare, Keyed, BadKey}
use Rattle.site_node.specs.Confirmed.{Turn, ACommand, ATick, HasTurns}
use Rattle.site_node.proofs.ConfirmedLaws.{turns_count}
use Rattle.desk_turns.specs.Seated.{SeatedValue}
use Rattle.site_core.specs.declared.fault.DeskError.{DeskError}
use Rattle.site_node.specs.Texts.{tick_text}
use Rattle.site_node.specs.declared.tick.Ticked.{Ticked}
use Rattle.site_server.specs.Replying.{asked, goes_by, ThenSends, Says, Gets, GetsBy, GetsLine}
use Rattle.site_server.specs.Conversations.{TellsTick, IsTurn, AreTurns, CountsReplies}
use Rattle.site_server.proofs.ConfirmedTurns.{both}
use Rattle.site_server.proofs.KeyedLaws.{keyed_turns}

module _ {P : Type 0} (size : P → ℕ) (sends : P → ℕ → ℕ → P → Type 0)
    (stops : P → ℕ → P → Type 0) (id : DeskId) where
  tells_tick : (before after : P) (ticked : Result Ticked DeskError) (result : Result (Ticked × ℕ) DeskError)
      (text : List ℕ)
      → ThenSends size sends stops ticked before result after → text ≡ tick_text result → TellsTick ticked text
  tells_tick before after (Ok ticked) (Ok (done, sent)) text h says =
      inl (sent, says ∙ ap (λ (t : Ticked). tick_text (Ok (t, sent))) h.0)
  tells_tick before after (Ok ticked) (Err fault) text h says =
      inr (says ∙ ap (λ (f : DeskError). tick_text (Err f)) h.0)
  tells_tick before after (Err fault) result text h says = says ∙ ap tick_text h.0

  -- one line
  pub turns_of_line : (command : Option SiteCommand) (was : SeatedValue) (before : P) (answer : LineAnswer)
      (now : SeatedValue) (after : P)
      → Says size sends stops id command was before answer now after
      → (turns : List Turn) × IsTurn command answer.text turns × HasTurns was.told turns now.told
  turns_of_line None was before answer now after h = ([], refl, ap (λ (s : SeatedValue). s.told) h.1)
  turns_of_line (Some (Bare (AtDesk command))) was before answer now after h =
      let c = h.0 in (
        ACommand command c.reply ∷ [],
        (c.reply, refl, c.says),
        (now.told, (c.at_desk.old, c.at_desk.new, c.at_desk.acts), refl),
      )
  turns_of_line (Some (Keyed key command)) was before answer now after h =
      let c = h.0 in
      let found = keyed_turns id was key command c.reply now c.at_desk in
      (found.0, (c.reply, found.1, c.says), found.2)
  turns_of_line (Some BadKey) was before answer now after h = ([], refl, ap (λ (s : SeatedValue). s.told) h.1)
  turns_of_line (Some (Bare (Tick time))) was before answer now after h =
      let t = h.does.at_desk in (
        ATick time t.does.served h.does.ticked ∷ [],
        (t.does.served, h.does.ticked, refl, tells_tick before after h.does.ticked h.result answer.text h.does.then_sends h.says),
        (now.told, (t.old, t.new, t.does.ticks), refl),
      )
  turns_of_line (Some (Bare RefusedTick)) was before answer now after h = ([], refl, ap (λ (s : SeatedValue). s.told) h.1)
  turns_of_line (Some (Bare Queue)) was before answer now after h = ([], refl, ap (λ (s : SeatedValue). s.told) h.1)
  turns_of_line (Some (Bare Status)) was before answer now after h = ([], refl, ap (λ (s : SeatedValue). s.told) h.1)
  turns_of_line (Some (Bare Quit)) was before answer now after h = absurd h

  module _ {S : Type 0} (seat : S → SeatedValue) (peers : S → P) (shows : S → Option ℕ → Type 0) where
    -- the replies of a handler with such a seat, such peers and such a clock, and its state after a memory refusal
    abbrev pub Answers : Answering S
    Answers before line reply after =
        GetsLine size sends stops (shows before) id line (seat before) (peers before) reply (seat after) (peers after)

    abbrev pub Fails : S → S → Type 0
    Fails before after = (seat after ≡ seat before) × (peers after ≡ peers before)

    gets_line : (command : Option SiteCommand) (line : List ℕ) (old : S) (text : Option (List ℕ)) (new : S)
        → (time : Option ℕ) × shows old time × (command ≡ asked time line)
        → Gets size sends stops id command (seat old) (peers old) text (seat new) (peers new)
        → Answers old line text new
    gets_line command line old text new spelled h =
        record {
          time = spelled.0;
          shown = spelled.1;
          gets = subst (λ (c : Option SiteCommand). Gets size sends stops id c (seat old) (peers old) text (seat new)
              (peers new)) spelled.2 h;
        }

    -- the command of a line had this effect
    answer_gets : (how : Option Answered) (command : Option SiteCommand) (line : List ℕ) (old new : S)
        (waits waits' : Waiting) → (time : Option ℕ) × shows old time × (command ≡ asked time line)
        → GetsBy size sends stops how id command (seat old) (peers old) waits (seat new) (peers new) waits'
        → LineGets Answers (goes_by how) old line new waits waits'
    answer_gets (Some how) command line old new waits waits' spelled h =
        (h.0, gets_line command line old (Some h.0) new spelled (how, h.1), h.2)
    answer_gets None command line old new waits waits' spelled h =
        (gets_line command line old None new spelled h.0, h.1, h.2)

    pub line_gets : (how : Option Answered) (goes : Goes) (command : Option SiteCommand) (line : List ℕ) (old new : S)
        (waits waits' : Waiting) → (time : Option ℕ) × shows old time × (command ≡ asked time line)
        → GetsBy size sends stops how id command (seat old) (peers old) waits (seat new) (peers new) waits'
        → goes ≡ goes_by how → LineGets Answers goes old line new waits waits'
    line_gets how goes command line old new waits waits' spelled h goes_on =
        subst (λ (g : Goes). LineGets Answers g old line new waits waits') (sym goes_on)
        (answer_gets how command line old new waits waits' spelled h)

    turns_of : (start : S) (lines : List (List ℕ)) (text : List ℕ) (state : S) → LinesGet Answers start lines text state
        → (turns : List Turn) × AreTurns lines text turns × HasTurns (seat start).told turns (seat state).told
    turns_of start [] text state h = ([], (h.0, refl), ap (λ s. (seat s).told) h.1)
    turns_of start (line ∷ lines) text state h =
        let answer : LineAnswer = record { text = h.0; how = h.3.gets.0 } in
        let first = turns_of_line (asked h.3.time line) (seat start) (peers start) answer (seat h.1) (peers h.1)
        h.3.gets.1 in
        let rest = turns_of h.1 lines h.2 state h.4 in (
          first.0 ++ rest.0,
          (h.0, h.2, first.0, rest.0, (h.3.time, first.1), rest.1, h.5, refl),
          both (seat start).told (seat h.1).told (seat state).told first.0 rest.0 first.2 rest.2,
        )

    -- however a conversation ended, the seat is as after the last reply
    seat_left : {given left held holds : Option (List ℕ)} (start after : S) (result : Result EndedBy ConversationError)
        (talk : Talk Answers start given left held holds)
        → Leaves Fails result talk after → seat after ≡ seat talk.state
    seat_left start after (Ok Input) talk h = ap seat h
    seat_left start after (Ok Handler) talk h = h.ends.gets.1
    seat_left start after (Err ReadFailed) talk h = ap seat h
    seat_left start after (Err WriteFailed) talk (inl h) = ap seat h
    seat_left start after (Err WriteFailed) talk (inr (inl h)) = h.0
    seat_left start after (Err WriteFailed) talk (inr (inr h)) = h.ends.gets.1
    seat_left start after (Err OutOfMemory) talk (inl h) = ap seat h
    seat_left start after (Err OutOfMemory) talk (inr h) = h.0
    seat_left start after (Err TooManyLines) talk h = ap seat h

    pub counts_replies : {given left held holds : Option (List ℕ)} (start after : S)
        (result : Result EndedBy ConversationError) (talk : Talk Answers start given left held holds)
        → Leaves Fails result talk after → CountsReplies (seat start).told talk.lines talk.replies (seat after).told
    counts_replies start after result talk left =
        let found = turns_of start talk.lines talk.replies talk.state talk.answered in
        let has = subst (λ (s : SeatedValue). HasTurns (seat start).told found.0 s.told)
        (sym (seat_left start after result talk left)) found.2 in
        record {
          turns = found.0;
          are_turns = found.1;
          has_turns = has;
          counted = turns_count (seat start).told found.0 (seat after).told has;
        }
