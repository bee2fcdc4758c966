-- The configuration of one site, and the words that give it.
use Rattle.std.specs.Prelude.{◌≡◌, ◌≢◌, ◌<◌, ◌≤◌, ◌⊎◌, not, ◌+◌, ◌*◌, ◌==◌, ◌++◌, ℕ, zero, suc, Bool, true, false, List, [], ◌∷◌, Option}
use Rattle.std.specs.Prelude.{◌&&◌, is_some, Some, None, IfSome, IfNone, Contains, codes, length, map, max, decimal}
use Rattle.std.specs.Prelude.{option_and_then, unwrap_or}
use Rattle.std.specs.Prelude.{if◌then◌else◌}
use Rattle.std.specs.List.{All, list_any, slice_index_or}
use Rattle.std.specs.Str.Parse.{IsNumeral, digits_value, without_leading_plus}
use Rattle.clap.specs.Walk.{Row, Text, all_of, first_of, one_of}
use Rattle.rights_types.specs.Ranges.{IsSite}
use Rattle.rights_types.specs.declared.limits.TheConstants.{MAX_SITES, MIN_SITES}
use Rattle.site_words.specs.Names.{is_system_name}
use Rattle.site_words.specs.declared.config.TheConstants.{MAX_KEYS, MAX_SILENCE, MAX_TICK, MIN_SILENCE, MIN_TICK}
use Rattle.site_words.specs.declared.config.TheConstants.{TICKS_OF_SILENCE, USUAL_KEYS, USUAL_SILENCE}

-- a peer, and an address: where it listens, or the one at which this site lets it in
pub record Peer : Type 0 where
  pub site : ℕ
  pub address : Text

-- the optional settings: the address for HTTP, the names of the host to which it answers there, the interval in
-- milliseconds at which the site ticks itself, the time in milliseconds with no line after which a peer counts as
-- silent, how many keys of commands it remembers, the file that it creates at its start, its journal, the name of the
-- system that is written into a new one, and whether it logs events on links and clients
pub record Options : Type 0 where
  pub http : Option Text
  pub hosts : List Text
  pub tick : Option ℕ
  pub silent : Option ℕ
  pub keys : Option ℕ
  pub once : Option Text
  pub journal : Option Text
  pub system : Option Text
  pub log : Bool

pub record Settings : Type 0 where
  pub id : ℕ
  pub sites : ℕ
  pub listen : Option Text
  pub peers : List Peer
  pub entrances : List Peer
  pub options : Options

-- the range of the interval at which a site ticks itself: from a millisecond to a minute
abbrev pub IsTick : ℕ → Type 0
IsTick milliseconds = (MIN_TICK ≤ milliseconds) × (milliseconds ≤ MAX_TICK)

-- the range of the time after which a peer counts as silent: from a second to an hour, or 0, which stands for never
abbrev pub IsSilence : ℕ → Type 0
IsSilence milliseconds = (milliseconds ≡ 0) ⊎ ((MIN_SILENCE ≤ milliseconds) × (milliseconds ≤ MAX_SILENCE))

-- the range of how many keys of commands a site remembers: 0 to ten million
abbrev pub IsKeyCount : ℕ → Type 0
IsKeyCount keys = keys ≤ MAX_KEYS

-- A site has a journal or a file that it creates at its start, and not both. Only one with a journal has a name of its
-- system.
pub record IsJournaling (once journal system : Option Text) : Type 0 where
  pub alone : is_some once && is_some journal ≡ false
  pub named : IfSome system (λ name. (is_some journal ≡ true) × (is_system_name name ≡ true))

pub record AreInRange (o : Options) : Type 0 where
  pub tick : IfSome o.tick IsTick
  pub silent : IfSome o.silent IsSilence
  pub keys : IfSome o.keys IsKeyCount
  pub journal : IsJournaling o.once o.journal o.system

-- a time that is given as 0 is none
abbrev pub unless_zero : ℕ → Option ℕ
unless_zero zero = None
unless_zero (suc n) = Some (suc n)

-- after which time a peer counts as silent for a site that ticks itself at this interval: after the time that is given;
-- or else three seconds, or ten ticks if that is more
abbrev pub silent_beside_ticks : Option ℕ → ℕ → Option ℕ
silent_beside_ticks (Some given) tick = unless_zero given
silent_beside_ticks None tick = Some (max USUAL_SILENCE (TICKS_OF_SILENCE * tick))

-- .. and for a site with these settings: never, if it does not tick itself
abbrev pub silent_after : Options → Option ℕ
silent_after o = option_and_then (silent_beside_ticks o.silent) o.tick

-- how many keys of commands a site with these settings remembers: as many as are given, or else a million
abbrev pub keys_of : Options → ℕ
keys_of o = unwrap_or o.keys USUAL_KEYS

-- the sites from 1 to n except this one, in order
abbrev pub others : ℕ → ℕ → List ℕ
others id zero = []
others id (suc n) = if suc n == id then others id n else others id n ++ suc n ∷ []

-- another site of the system
pub record IsOther (id sites site : ℕ) : Type 0 where
  pub least : 1 ≤ site
  pub most : site ≤ sites
  pub other : site ≢ id

-- no site has two entrances
abbrev pub AreApart : List Peer → Type 0
AreApart ps = (i j : ℕ) (p : Peer) → i < j → j < length ps
    → (slice_index_or ps i p).site ≢ (slice_index_or ps j p).site

-- the entrances are of other sites, one for each at most
pub record AreEntrances (id sites : ℕ) (ps : List Peer) : Type 0 where
  pub others : All (λ p. IsOther id sites p.site) ps
  pub apart : AreApart ps

-- a peer has an entrance of its own
abbrev pub has_entrance : ℕ → List Peer → Bool
has_entrance site ps = list_any (λ p. p.site == site) ps

-- whether a connection that a peer opened is taken at the entrance of a site, or at the address that the peers share:
-- there only if it has no entrance of its own
abbrev pub is_admitted : List Peer → Option ℕ → ℕ → Bool
is_admitted entrances (Some owner) peer = owner == peer
is_admitted entrances None peer = not (has_entrance peer entrances)

-- the peers are the other sites, each once; each can come in, at the address that they share or at an entrance of its
-- own; and the options are within their limits
pub record IsSettings (s : Settings) : Type 0 where
  pub least : MIN_SITES ≤ s.sites
  pub most : s.sites ≤ MAX_SITES
  pub site : IsSite s.id
  pub among : s.id ≤ s.sites
  pub peers : map (λ p. p.site) s.peers ≡ others s.id s.sites
  pub entrances : AreEntrances s.id s.sites s.entrances
  pub all : IfNone s.listen (length s.entrances + 1 ≡ s.sites)
  pub times : AreInRange s.options

-- `J=ADDRESS`: the peer's number in decimals, `=` (61) and its address
abbrev pub peer_word : Peer → Text
peer_word p = decimal p.site ++ 61 ∷ p.address

-- one of the words names the peer
abbrev pub IsNamed : List Text → Peer → Type 0
IsNamed words p = Contains words (peer_word p)

-- each peer is named by a word, and there are as many words as peers
pub record Names (words : List Text) (s : Settings) : Type 0 where
  pub each : All (IsNamed words) s.peers
  pub count : length words + 1 ≡ s.sites

-- the settings have these values, and the peers and the entrances are those that the words name
pub record HasValues (id sites : ℕ) (listen : Option Text) (words froms : List Text) (options : Options)
    (s : Settings) : Type 0 where
  pub same_id : s.id ≡ id
  pub same_sites : s.sites ≡ sites
  pub same_listen : s.listen ≡ listen
  pub same_entrances : map peer_word s.entrances ≡ froms
  pub same_options : s.options ≡ options
  pub names : Names words s

-- one of the other sites is not named by any word
abbrev pub Lacks : ℕ → ℕ → List Text → Type 0
Lacks id sites words = (site : ℕ) × Contains (others id sites) site
    × ((address : Text) → IsNamed words (record { site = site; address = address }) → ⊥)

-- the number that clap found for an option
abbrev pub HasNumber : List Row → Text → ℕ → Type 0
HasNumber rows option n = (text : Text) × (one_of option rows ≡ Some text)
    × IsNumeral 10 (without_leading_plus text) × (n ≡ digits_value 10 (without_leading_plus text))

-- .. or found that it is missing
abbrev pub MayHaveNumber : List Row → Text → Option ℕ → Type 0
MayHaveNumber rows option None = one_of option rows ≡ None
MayHaveNumber rows option (Some n) = HasNumber rows option n

abbrev pub flag_text : Bool → Text
flag_text true = codes "true"
flag_text false = codes "false"

-- whether clap found a flag: its contract gives that as a word
abbrev pub HasFlag : List Row → Text → Bool → Type 0
HasFlag rows flag set = one_of flag rows ≡ Some (flag_text set)

-- each optional setting is as clap found it
pub record AreFound (rows : List Row) (o : Options) : Type 0 where
  pub http : first_of (codes "http") rows ≡ o.http
  pub hosts : unwrap_or (all_of (codes "host") rows) [] ≡ o.hosts
  pub tick : MayHaveNumber rows (codes "tick") o.tick
  pub silent : MayHaveNumber rows (codes "silent") o.silent
  pub keys : MayHaveNumber rows (codes "keys") o.keys
  pub once : first_of (codes "once") rows ≡ o.once
  pub journal : first_of (codes "journal") rows ≡ o.journal
  pub system : first_of (codes "system") rows ≡ o.system
  pub log : HasFlag rows (codes "log") o.log

-- the settings are those that clap found
pub record IsFound (rows : List Row) (s : Settings) : Type 0 where
  pub id : HasNumber rows (codes "id") s.id
  pub sites : HasNumber rows (codes "sites") s.sites
  pub listen : first_of (codes "listen") rows ≡ s.listen
  pub entrances : map peer_word s.entrances ≡ unwrap_or (all_of (codes "from") rows) []
  pub words : List Text
  pub given : all_of (codes "peer") rows ≡ Some words
  pub peers : Names words s
  pub options : AreFound rows s.options
