-- What a line spells by its text; and a line with a key is not `quit`, so it is answered alike at the input and over a
-- connection.
use Rattle.std.proofs.Common.{◌≡◌, ◌++◌, length, refl, ℕ, Bool, true, false, List, [], ◌∷◌, Option, Some, None}
use Rattle.std.proofs.lemmas.Bool.{le-leb, lt-leb}
use Rattle.std.specs.Borrow.{Bor}
use Rattle.std.specs.Prelude.{if◌then◌else◌}
use Rattle.rights_types.specs.declared.limits.TheConstants.{MAX_LINE}
use Rattle.command_keys.specs.Key.{key_in}
use Rattle.line_streams.specs.Handling.{IsGiven}
use Rattle.refusals.specs.Refusals.{LineAnswer}
use Rattle.apply_lanes.proofs.RecorderLaws.{front_is}
use Rattle.apply_lanes.specs.Names.{DeskId}
use Rattle.site_words.specs.Commands.{command_with, keyed_by, keyed_in, may_have_key, under_key}
use Rattle.site_words.specs.declared.commands.BareCommand.{BareCommand}
use Rattle.site_words.specs.declared.commands.BareCommand.TheVariants.{AtDesk, Tick, RefusedTick, Status, Queue, Quit}
use Rattle.site_words.specs.declared.commands.DeskCommand.{DeskCommand}
use Rattle.site_words.specs.declared.commands.SiteCommand.{SiteCommand}
use Rattle.site_words.specs.declared.commands.SiteCommand.TheVariants.{Bare, Keyed, BadKey}
use Rattle.desk_turns.specs.Seated.{SeatedValue}
use Rattle.site_server.specs.Connections.{Tells}
use Rattle.site_server.specs.Replying.{Says, asked, given}

pub given_asked : (time : Option ℕ) (line : List ℕ) (text : Option (Bor (List ℕ))) → IsGiven line text
    → given time text ≡ asked time line
given_asked time line None long = rw (lt-leb (length line) MAX_LINE long) refl
given_asked time line (Some text) (ended, short) =
    rw (le-leb (length line) MAX_LINE short, front_is text.now line ended) refl

-- what a line with a key may spell
abbrev HasKey : Option SiteCommand → Type 0
HasKey (Some (Bare command)) = ⊥
HasKey command = Unit {0}

at_desk : (command : DeskCommand) (key : List ℕ) (may : Bool)
    → HasKey (Some (if may then Keyed key command else BadKey))
at_desk command key true = tt
at_desk command key false = tt

under : (command : BareCommand) (key : List ℕ) → HasKey (Some (under_key command key))
under (AtDesk command) key = at_desk command key (may_have_key command)
under (Tick time) key = tt
under RefusedTick key = tt
under Status key = tt
under Queue key = tt
under Quit key = tt

by_key : (key : Option (List ℕ)) (command : Option BareCommand) → HasKey (keyed_by key command)
by_key None command = tt
by_key (Some key) None = tt
by_key (Some key) (Some command) = under command key

module _ {P : Type 0} (size : P → ℕ) (sends : P → ℕ → ℕ → P → Type 0)
    (stops : P → ℕ → P → Type 0) (id : DeskId) (was : SeatedValue) (before : P) (answer : LineAnswer)
    (now : SeatedValue) (after : P) where
  says : (command : Option SiteCommand) → HasKey command
      → Tells size sends stops id command was before answer now after
      → Says size sends stops id command was before answer now after
  says None has h = h
  says (Some (Bare command)) has h = absurd has
  says (Some (Keyed key command)) has h = h
  says (Some BadKey) has h = h

  pub keyed_says : (time : Option ℕ) (words : List (List ℕ))
      → Tells size sends stops id (keyed_in time words) was before answer now after
      → Says size sends stops id (keyed_in time words) was before answer now after
  keyed_says time [] h = h
  keyed_says time (key ∷ words) h = says (keyed_by (key_in key) (command_with time words))
      (by_key (key_in key) (command_with time words)) h
