-- The answer to each line of a client over a connection, and its effect on the client.
use Rattle.std.specs.Prelude.{◌≡◌, ℕ, Bool, true, false, List, Option, Some, None}
use Rattle.http.specs.declared.request.Request.{Request}
use Rattle.http_server.specs.declared.response.Response.{Response}
use Rattle.refusals.specs.Refusals.{LineAnswer}
use Rattle.apply_lanes.specs.Names.{DeskId}
use Rattle.site_words.specs.declared.commands.BareCommand.TheVariants.{AtDesk, Quit}
use Rattle.site_words.specs.declared.commands.SiteCommand.{SiteCommand}
use Rattle.site_words.specs.declared.commands.SiteCommand.TheVariants.{Bare, Keyed}
use Rattle.site_http.specs.Responding.{Responds}
use Rattle.site_server.specs.Measuring.{TellsMetrics, TellsClosed}
use Rattle.desk_turns.specs.Seated.{SeatedValue}
use Rattle.site_server.specs.Replying.{asked_under, Says, TellsStatus, TellsQueue, TellsPeers, TellsLog}
use Rattle.site_server.specs.Settling.{SettlesCommand, SettlesKeyedCommand}

-- a client, as plain data: its seat with its turns, its peers, and what notifies it of ticks
pub record ClientValue (P B : Type 0) : Type 0 where
  pub seat : SeatedValue
  pub peers : P
  pub signal : B

module _ {P : Type 0} (size : P → ℕ) (sends : P → ℕ → ℕ → P → Type 0)
    (stops : P → ℕ → P → Type 0) where
  -- over a connection no command ends the site: `quit` is not a command there
  abbrev pub Tells : DeskId → Option SiteCommand → SeatedValue → P → LineAnswer → SeatedValue → P → Type 0
  Tells id (Some (Bare Quit)) was before answer now after = Says size sends stops id None was before answer now after
  Tells id command was before answer now after = Says size sends stops id command was before answer now after

  -- the same for a client that waits for the outcome of its spend
  abbrev pub TellsSettled : Type 0 → Type 0 → DeskId → Option SiteCommand → SeatedValue → P → LineAnswer → SeatedValue → P
      → Type 0
  TellsSettled HasEnded HasLeft id (Some (Bare (AtDesk command))) was before answer now after =
      SettlesCommand HasEnded HasLeft id was command answer now × (after ≡ before)
  TellsSettled HasEnded HasLeft id (Some (Keyed key command)) was before answer now after =
      SettlesKeyedCommand HasEnded HasLeft id was key command answer now × (after ≡ before)
  TellsSettled HasEnded HasLeft id command was before answer now after = Tells id command was before answer now after

  -- the one or the other, by whether the client waits
  abbrev pub TellsBy : Bool → Type 0 → Type 0 → DeskId → Option SiteCommand → SeatedValue → P → LineAnswer → SeatedValue
      → P → Type 0
  TellsBy false HasEnded HasLeft = Tells
  TellsBy true HasEnded HasLeft = TellsSettled HasEnded HasLeft

  module _ {B : Type 0} (has_ended has_left : B → Type 0) (shows : B → Option ℕ → Type 0) (id : DeskId) where
    -- the answer to a line, by the key of its request, by whether the client waits, and by the command that it spells at a
    -- time that the site's own clock may show
    pub record Answers (key : Option (List ℕ)) (waits : Bool) (before : ClientValue P B) (line : List ℕ) (answer : LineAnswer)
        (after : ClientValue P B) : Type 0 where
      pub time : Option ℕ
      pub shown : shows before.signal time
      pub tells : TellsBy waits (has_ended before.signal) (has_left before.signal) id (asked_under key time line) before.seat before.peers answer after.seat
          after.peers

    -- the response to a request of a client over a connection, at a site whose host has these names
    abbrev pub Responded : List (List ℕ) → ClientValue P B → Request (List ℕ) → Response → ClientValue P B → Type 0
    Responded = Responds Answers (λ client text. TellsStatus id text) (λ client text. TellsQueue id text)
        (λ client text. TellsPeers id text) (λ client first text. TellsLog id first text) (λ client text. TellsMetrics id text)
        (λ client is_closed. TellsClosed id is_closed)
