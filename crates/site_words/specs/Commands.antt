-- The command of a site that a line spells, by the words of the line. The time is what the site's own clock shows; a
-- site has none that does not tick itself.
use Rattle.std.specs.Prelude.{ℕ, ◌+◌, ◌-◌, ◌^◌, ◌==◌, min, List, [], ◌∷◌, Option, Some, None, codes, option_map}
use Rattle.std.specs.Prelude.{Bool, true, false, bytes_eq, if◌then◌else◌}
use Rattle.command_keys.specs.Key.{key_in}
use Rattle.entry_codec.specs.Moves.{◌>>=◌, number_of}
use Rattle.line_streams.specs.Words.{words_of, words_left, named, alone, first_number, only_number, optional_site}
use Rattle.line_streams.specs.Words.{site_and_number}
use Rattle.site_words.specs.declared.commands.Name.{Name}
use Rattle.site_words.specs.declared.commands.Name.TheVariants.{Issue as AnIssue, Give as AGive, Spend as ASpend}
use Rattle.site_words.specs.declared.commands.Name.TheVariants.{Outcome as AnOutcome, Tick as ATick, Status as AStatus}
use Rattle.site_words.specs.declared.commands.Name.TheVariants.{Close as AClose, Quit as AQuit, Take as ATake}
use Rattle.site_words.specs.declared.commands.Name.TheVariants.{Cancel as ACancel, Queue as AQueue}
use Rattle.site_words.specs.declared.commands.DeskCommand.{DeskCommand}
use Rattle.site_words.specs.declared.commands.DeskCommand.TheVariants.{Issue, Give, Spend, Take, Outcome, Cancel, Close}
use Rattle.site_words.specs.declared.commands.BareCommand.{BareCommand}
use Rattle.site_words.specs.declared.commands.BareCommand.TheVariants.{AtDesk, Tick, RefusedTick, Status, Queue, Quit}
use Rattle.site_words.specs.declared.commands.SiteCommand.{SiteCommand}
use Rattle.site_words.specs.declared.commands.SiteCommand.TheVariants.{Bare, Keyed, BadKey}
use Rattle.site_words.specs.declared.commands.SiteLine.{SiteLine}
use Rattle.site_words.specs.declared.commands.SiteLine.TheVariants.{Command, AfterKey}
use Rattle.site_words.specs.declared.commands.TheConstants.{MAX_AHEAD}

-- a command by the words after its name

-- the amount
abbrev pub issue_in : List (List ℕ) → Option BareCommand
issue_in words = only_number words >>= (λ amount. Some (AtDesk (Issue amount)))

-- the peer and the amount
abbrev pub give_in : List (List ℕ) → Option BareCommand
give_in words = site_and_number words >>= (λ gift. Some (AtDesk (Give gift.0 gift.1)))

-- the time that is so many milliseconds later
abbrev pub later : ℕ → ℕ → ℕ
later time ahead = min (time + ahead) (2 ^ 64 - 1)

-- .. by the digits of a number of milliseconds, at most a day
abbrev pub ahead_of : ℕ → List ℕ → Option ℕ
ahead_of time digits = number_of 0 MAX_AHEAD digits >>= (λ ahead. Some (later time ahead))

-- a deadline: a time; or, at a site with a clock of its own, `+` (43) and how far ahead of its time the deadline is
abbrev pub deadline_of : Option ℕ → List ℕ → Option ℕ
deadline_of (Some time) (first ∷ digits) =
    if first == 43 then ahead_of time digits else number_of 0 (2 ^ 64 - 1) (first ∷ digits)
deadline_of time word = number_of 0 (2 ^ 64 - 1) word

abbrev pub deadline_in : Option ℕ → List (List ℕ) → Option ℕ
deadline_in time (word ∷ []) = deadline_of time word
deadline_in time words = None

-- the latest deadline, at a site with a clock of its own: a day ahead of its time
abbrev pub latest_at : Option ℕ → Option ℕ
latest_at = option_map (λ time. later time MAX_AHEAD)

-- the amount and the deadline
unfoldable pub spend_in : Option ℕ → List (List ℕ) → Option BareCommand
spend_in time words = do
  amount ← first_number words
  deadline ← deadline_in time amount.1
  Some (AtDesk (Spend amount.0 deadline (latest_at time)))

-- the amount
abbrev pub take_in : List (List ℕ) → Option BareCommand
take_in words = only_number words >>= (λ amount. Some (AtDesk (Take amount)))

-- the ticket
abbrev pub outcome_in : List (List ℕ) → Option BareCommand
outcome_in words = only_number words >>= (λ ticket. Some (AtDesk (Outcome ticket)))

abbrev pub cancel_in : List (List ℕ) → Option BareCommand
cancel_in words = only_number words >>= (λ ticket. Some (AtDesk (Cancel ticket)))

-- the time of the tick, at a site that has no clock of its own
abbrev pub tick_by : Option ℕ → ℕ → BareCommand
tick_by None at = Tick at
tick_by (Some time) at = RefusedTick

-- the heir, if any
abbrev pub close_in : List (List ℕ) → Option BareCommand
close_in words = optional_site words >>= (λ heir. Some (AtDesk (Close heir)))

-- a command by its name, the time, and the words after the name
abbrev pub command_by : Name → Option ℕ → List (List ℕ) → Option BareCommand
command_by AnIssue time words = issue_in words
command_by AGive time words = give_in words
command_by ASpend time words = spend_in time words
command_by ATake time words = take_in words
command_by AnOutcome time words = outcome_in words
command_by ACancel time words = cancel_in words
command_by ATick time words = only_number words >>= (λ at. Some (tick_by time at))
command_by AStatus time words = alone Status words
command_by AQueue time words = alone Queue words
command_by AClose time words = close_in words
command_by AQuit time words = alone Quit words

unfoldable pub name_of : List ℕ → Option Name
name_of text =
    named (
    (codes "issue", AnIssue)
    ∷ (codes "give", AGive)
    ∷ (codes "spend", ASpend)
    ∷ (codes "take", ATake)
    ∷ (codes "outcome", AnOutcome)
    ∷ (codes "cancel", ACancel)
    ∷ (codes "tick", ATick)
    ∷ (codes "status", AStatus)
    ∷ (codes "queue", AQueue)
    ∷ (codes "close", AClose)
    ∷ (codes "quit", AQuit) ∷ []
    ) text

-- the command with no key that these words spell
abbrev pub command_with : Option ℕ → List (List ℕ) → Option BareCommand
command_with time [] = None
command_with time (first ∷ words) = name_of first >>= (λ name. command_by name time words)

-- A command may have a key if it writes an entry.
abbrev pub may_have_key : DeskCommand → Bool
may_have_key (Issue amount) = true
may_have_key (Give peer amount) = true
may_have_key (Spend amount deadline latest) = true
may_have_key (Take amount) = true
may_have_key (Outcome ticket) = false
may_have_key (Cancel ticket) = false
may_have_key (Close heir) = true

-- a command under a key; one that may have none is refused
abbrev pub under_key : BareCommand → List ℕ → SiteCommand
under_key (AtDesk command) key = if may_have_key command then Keyed key command else BadKey
under_key command key = BadKey

-- .. and the command of a line, if it spells one: one that has a key already is refused too
abbrev pub keyed : Option SiteCommand → List ℕ → Option SiteCommand
keyed None key = None
keyed (Some (Bare command)) key = Some (under_key command key)
keyed (Some command) key = Some BadKey

-- .. where the key is spelled: a text that is none is refused, whatever follows
abbrev pub keyed_by : Option (List ℕ) → Option BareCommand → Option SiteCommand
keyed_by None command = Some BadKey
keyed_by (Some key) command = option_map (λ command. under_key command key) command

-- the words after `key`: a key, and a command with none
abbrev pub keyed_in : Option ℕ → List (List ℕ) → Option SiteCommand
keyed_in time [] = None
keyed_in time (key ∷ words) = keyed_by (key_in key) (command_with time words)

-- the command that all the words of a line spell
abbrev pub command_in : Option ℕ → List (List ℕ) → Option SiteCommand
command_in time [] = None
command_in time (first ∷ words) =
    if bytes_eq first (codes "key") then keyed_in time words else option_map Bare (command_with time (first ∷ words))

-- the command of a line without its line feed
abbrev pub command_of : Option ℕ → List ℕ → Option SiteCommand
command_of time line = command_in time (words_of line)

-- .. which was read up to its key
abbrev pub command_left : Option ℕ → Option SiteLine → Option SiteCommand
command_left time None = None
command_left time (Some (Command command)) = Some (Bare command)
command_left time (Some (AfterKey words)) = keyed_in time (words_left words)
