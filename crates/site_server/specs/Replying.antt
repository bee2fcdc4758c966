-- The answer to each line of a client at a running site, and its effect on the client's seat and on the peers.
use Rattle.std.specs.Prelude.{◌≡◌, ℕ, ◌-◌, nat_le, Bool, false, List, [], ◌∷◌, length, take, Option, Some, None, Result, Ok, Err}
use Rattle.std.specs.Prelude.{if◌then◌else◌}
use Rattle.std.specs.Borrow.{Bor}
use Rattle.rights_types.specs.declared.limits.TheConstants.{MAX_LINE}
use Rattle.rights_book.specs.Books.{peer}
use Rattle.site_core.specs.Desks.{DeskValue}
use Rattle.site_core.specs.declared.fault.DeskError.{DeskError}
use Rattle.site_core.specs.declared.fault.DeskError.TheVariants.{OutOfMemory}
use Rattle.thread_parts.specs.declared.view.DeskView.{DeskView}
use Rattle.apply_lanes.specs.Names.{DeskId}
use Rattle.apply_lanes.specs.Kepts.{KeptValue, IsKept}
use Rattle.apply_lanes.specs.Views.{IsViewOf}
use Rattle.line_streams.specs.Waiting.{Waiting, AddsReply}
use Rattle.line_streams.specs.declared.handler.Goes.{Goes}
use Rattle.line_streams.specs.declared.handler.Goes.TheVariants.{On, Ends}
use Rattle.refusals.specs.Refusals.{LineAnswer, IsRefusedFor}
use Rattle.refusals.specs.declared.answered.Answered.{Answered}
use Rattle.refusals.specs.declared.answered.Answered.TheVariants.{Done}
use Rattle.refusals.specs.declared.refusal.Refusal.TheVariants.{BadCommand, OwnClock}
use Rattle.refusals.specs.declared.refusal.Refusal.TheVariants as refusal
use Rattle.site_words.specs.Commands.{command_of, keyed}
use Rattle.site_words.specs.Status.{status_text}
use Rattle.site_words.specs.declared.commands.BareCommand.TheVariants.{AtDesk, Tick, RefusedTick, Status, Queue, Quit}
use Rattle.site_words.specs.declared.commands.DeskCommand.{DeskCommand}
use Rattle.site_words.specs.declared.commands.SiteCommand.{SiteCommand}
use Rattle.site_words.specs.declared.commands.SiteCommand.TheVariants.{Bare, Keyed, BadKey}
use Rattle.site_words.specs.declared.status_object.JournalView.{JournalView}
use Rattle.site_words.specs.declared.status_object.PeerView.{PeerView}
use Rattle.site_sockets.specs.declared.peer.PeerState.{PeerState}
use Rattle.desk_turns.specs.Seated.{SeatedValue, ActsAtDesk, ActsKeyedAtDesk, TicksAtDesk}
use Rattle.site_node.specs.PeerSums.{peers_text}
use Rattle.site_node.specs.LogTexts.{log_text}
use Rattle.site_node.specs.Texts.{reply_text, reply_answered, tick_text, tick_answered, queue_text}
use Rattle.site_node.specs.ToPeers.{SendsToFirst, StopsAtPeer}
use Rattle.site_node.specs.declared.reply.Reply.{Reply}
use Rattle.site_node.specs.declared.tick.Ticked.{Ticked}
use Rattle.site_server.specs.Journals.{IsJournalView}

-- the command that a line, with its line feed, spells, if the site's own clock shows this time; `None` if it spells
-- none, or has more bytes than a line may have
abbrev pub asked : Option ℕ → List ℕ → Option SiteCommand
asked time line = if nat_le (length line) MAX_LINE then command_of time (take (length line - 1) line) else None

-- the same by its text, as a handler is given it
abbrev pub given : Option ℕ → Option (Bor (List ℕ)) → Option SiteCommand
given time None = None
given time (Some text) = command_of time text.now

-- .. under the key of its request, if that has one
abbrev pub under : Option (List ℕ) → Option SiteCommand → Option SiteCommand
under None command = command
under (Some key) command = keyed command key

abbrev pub asked_under : Option (List ℕ) → Option ℕ → List ℕ → Option SiteCommand
asked_under key time line = under key (asked time line)

-- ---- replies

-- in one turn, the desk carried out the command, and this answer tells its reply
pub record CarriesOut (id : DeskId) (was : SeatedValue) (command : DeskCommand) (answer : LineAnswer)
    (now : SeatedValue) : Type 0 where
  pub reply : Reply
  pub at_desk : ActsAtDesk id was command reply now
  pub says : answer.text ≡ reply_text reply
  pub how : answer.how ≡ reply_answered reply

-- this value is how far the desk applied that peer's log
abbrev pub IsApplied : DeskValue → PeerView → Type 0
IsApplied d view = view.applied ≡ (peer d.ledger.book view.site).log.end

-- the same for a command under a key, or its repeat
pub record CarriesOutKeyed (id : DeskId) (was : SeatedValue) (key : List ℕ) (command : DeskCommand) (answer : LineAnswer)
    (now : SeatedValue) : Type 0 where
  pub reply : Reply
  pub at_desk : ActsKeyedAtDesk id was key command reply now
  pub says : answer.text ≡ reply_text reply
  pub how : answer.how ≡ reply_answered reply

-- one view for each of these peers, in their order
abbrev pub AreOfPeers : DeskValue → List PeerState → List PeerView → Type 0
AreOfPeers d [] [] = Unit {0}
AreOfPeers d (p ∷ peers) (view ∷ views) = (view.site ≡ p.site) × IsApplied d view × AreOfPeers d peers views
AreOfPeers d peers views = ⊥

-- the views are those of the desk and of some peers at one moment, when so many keys were remembered; the state of a
-- peer's buffer is what was recorded last
pub record AreViews (id : DeskId) (view : DeskView) (views : List PeerView) (keys : ℕ) : Type 0 where
  pub kept : KeptValue
  pub remembered : keys ≡ length kept.keys.keys.written
  pub valid : IsKept id kept
  pub desk : IsViewOf kept.desk view
  pub peers : List PeerState
  pub of_peers : AreOfPeers kept.desk peers views

-- the text of a status object with such views, and with the counts of the journal at one moment
pub record TellsStatus (id : DeskId) (text : List ℕ) : Type 0 where
  pub view : DeskView
  pub peers : List PeerView
  pub journal : Option JournalView
  pub keys : ℕ
  pub views : AreViews id view peers keys
  pub counted : IsJournalView journal
  pub says : text ≡ status_text view peers journal keys

-- the spends that wait at the desk at one moment, and how many outcomes nobody has read
pub record TellsQueue (id : DeskId) (text : List ℕ) : Type 0 where
  pub kept : KeptValue
  pub valid : IsKept id kept
  pub says : text ≡ queue_text kept.desk.queue.waiting (length kept.desk.queue.outcomes)

-- what the desk knows of each other site at one moment
pub record TellsPeers (id : DeskId) (text : List ℕ) : Type 0 where
  pub kept : KeptValue
  pub valid : IsKept id kept
  pub says : text ≡ peers_text kept.desk

-- the export of the log from this number on, at one moment
pub record TellsLog (id : DeskId) (first : ℕ) (text : List ℕ) : Type 0 where
  pub kept : KeptValue
  pub valid : IsKept id kept
  pub says : text ≡ log_text kept first

-- the conversation continues after a line that was answered
abbrev pub goes_by : Option Answered → Goes
goes_by (Some how) = On
goes_by None = Ends

-- the answer is a text that the site reports
pub record IsReportOf (says : List ℕ → Type 0) (answer : LineAnswer) : Type 0 where
  pub text : says answer.text
  pub how : answer.how ≡ Done

module _ {P : Type 0} (size : P → ℕ) (sends : P → ℕ → ℕ → P → Type 0)
    (stops : P → ℕ → P → Type 0) where
  -- after a tick at the desk every peer is sent what is due to it, or each one before that for which memory ran out;
  -- after a refusal no peer is
  abbrev pub ThenSends : Result Ticked DeskError → P → Result (Ticked × ℕ) DeskError → P → Type 0
  ThenSends (Ok ticked) before (Ok (done, sent)) after
      = (done ≡ ticked) × SendsToFirst sends (size before) before sent after
  ThenSends (Ok ticked) before (Err fault) after =
      (fault ≡ OutOfMemory) × StopsAtPeer sends stops (size before) before after
  ThenSends (Err fault) before result after = (result ≡ Err fault) × (after ≡ before)

  -- a tick beside these silent sites
  pub record TicksAndSends (silent : ℕ → Bool) (id : DeskId) (was : SeatedValue) (before : P) (time : ℕ)
      (result : Result (Ticked × ℕ) DeskError) (now : SeatedValue) (after : P) : Type 0 where
    pub ticked : Result Ticked DeskError
    pub at_desk : TicksAtDesk silent id was time ticked now
    pub then_sends : ThenSends ticked before result after

  -- the same with no site silent, and this answer tells the result
  pub record DoesDue (id : DeskId) (was : SeatedValue) (before : P) (time : ℕ) (answer : LineAnswer) (now : SeatedValue)
      (after : P) : Type 0 where
    pub result : Result (Ticked × ℕ) DeskError
    pub does : TicksAndSends (λ j. false) id was before time result now after
    pub says : answer.text ≡ tick_text result
    pub how : answer.how ≡ tick_answered result

  -- ---- lines

  -- the answer to a line, and its effect on the seat and the peers; `quit` has no answer
  abbrev pub Says : DeskId → Option SiteCommand → SeatedValue → P → LineAnswer → SeatedValue → P → Type 0
  Says id None was before answer now after = IsRefusedFor BadCommand answer × (now ≡ was) × (after ≡ before)
  Says id (Some (Bare (AtDesk command))) was before answer now after = CarriesOut id was command answer now × (after ≡ before)
  Says id (Some (Keyed key command)) was before answer now after =
      CarriesOutKeyed id was key command answer now × (after ≡ before)
  Says id (Some BadKey) was before answer now after = IsRefusedFor refusal.BadKey answer × (now ≡ was) × (after ≡ before)
  Says id (Some (Bare (Tick time))) was before answer now after = DoesDue id was before time answer now after
  Says id (Some (Bare RefusedTick)) was before answer now after = IsRefusedFor OwnClock answer × (now ≡ was) × (after ≡ before)
  Says id (Some (Bare Queue)) was before answer now after = IsReportOf (TellsQueue id) answer × (now ≡ was) × (after ≡ before)
  Says id (Some (Bare Status)) was before answer now after = IsReportOf (TellsStatus id) answer × (now ≡ was) × (after ≡ before)
  Says id (Some (Bare Quit)) was before answer now after = ⊥

  -- .. by the text of the reply; `quit` ends the conversation, and no other line does
  abbrev pub Gets : DeskId → Option SiteCommand → SeatedValue → P → Option (List ℕ) → SeatedValue → P → Type 0
  Gets id command was before (Some text) now after =
      (how : Answered) × Says id command was before (record { text = text; how = how }) now after
  Gets id command was before None now after = (command ≡ Some (Bare Quit)) × (now ≡ was) × (after ≡ before)

  -- the same for a line, by the command that it spells at a time that the site's own clock may show
  pub record GetsLine (shows : Option ℕ → Type 0) (id : DeskId) (line : List ℕ) (was : SeatedValue) (before : P)
      (text : Option (List ℕ)) (now : SeatedValue) (after : P) : Type 0 where
    pub time : Option ℕ
    pub shown : shows time
    pub gets : Gets id (asked time line) was before text now after

  -- the same for a command and replies that wait to be written, by how the line was answered, if it was
  abbrev pub GetsBy : Option Answered → DeskId → Option SiteCommand → SeatedValue → P → Waiting → SeatedValue → P
      → Waiting → Type 0
  GetsBy (Some how) id command was before waits now after waits' =
      (text : List ℕ) × Says id command was before (record { text = text; how = how }) now after
      × AddsReply waits waits' text
  GetsBy None id command was before waits now after waits' =
      Gets id command was before None now after × (waits'.whole ≡ waits.whole) × (waits'.part ≡ [])
