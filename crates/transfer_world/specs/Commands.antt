-- The command of a line: its words, parted at each single space, and what they spell.
use Rattle.std.specs.Prelude.{◌≡◌, ℕ, ◌-◌, Bool, true, false, nat_le, List, [], ◌∷◌, ◌++◌, length, take, Option, Some}
use Rattle.std.specs.Prelude.{None, if◌then◌else◌, codes}
use Rattle.std.specs.List.{join_with_byte}
use Rattle.std.specs.Option.{option_map}
use Rattle.std.specs.Borrow.{Bor}
use Rattle.rights_types.specs.declared.moves.Move.{Move}
use Rattle.rights_types.specs.declared.limits.TheConstants.{MIN_SITES, MAX_SITES, MAX_LINE}
use Rattle.entry_codec.specs.Moves.{◌>>=◌, only_number as only_in, move_of}
use Rattle.line_streams.specs.Words.{words_of, named, alone, first_site, first_number, only_site, only_number}
use Rattle.line_streams.specs.Words.{optional_site, site_and_number}
use Rattle.world_core.specs.declared.event.Event.{Event}
use Rattle.world_core.specs.declared.event.Event.TheVariants.{Post, Issue, Give, Spend, Serve, Expire, Status, Plan}
use Rattle.world_core.specs.declared.event.Event.TheVariants.{Ask, Publish, Beat, Query, Arrive, Noise, Take, Close}
use Rattle.transfer_world.specs.declared.script.word.SiteWord.{SiteWord}
use Rattle.transfer_world.specs.declared.script.word.SiteWord.TheVariants.{Issue as SaysIssue, Give as SaysGive}
use Rattle.transfer_world.specs.declared.script.word.SiteWord.TheVariants.{Spend as SaysSpend, Serve as SaysServe}
use Rattle.transfer_world.specs.declared.script.word.SiteWord.TheVariants.{Expire as SaysExpire, Status as SaysStatus}
use Rattle.transfer_world.specs.declared.script.word.SiteWord.TheVariants.{Plan as SaysPlan, Arrive as SaysArrive}
use Rattle.transfer_world.specs.declared.script.word.SiteWord.TheVariants.{Close as SaysClose}
use Rattle.transfer_world.specs.declared.script.word.LinkWord.{LinkWord}
use Rattle.transfer_world.specs.declared.script.word.LinkWord.TheVariants.{Ask as SaysAsk, Publish as SaysPublish}
use Rattle.transfer_world.specs.declared.script.word.LinkWord.TheVariants.{Beat as SaysBeat, Query as SaysQuery}
use Rattle.transfer_world.specs.declared.script.word.LinkWord.TheVariants.{Requery as SaysRequery, Take as SaysTake}
use Rattle.transfer_world.specs.declared.script.word.Word.{Word}
use Rattle.transfer_world.specs.declared.script.word.Word.TheVariants.{Sites as SaysSites, Post as SaysPost, AtSite}
use Rattle.transfer_world.specs.declared.script.word.Word.TheVariants.{OnLink, Noise as SaysNoise, Report as SaysReport}
use Rattle.transfer_world.specs.declared.script.commands.ScriptCommand.{ScriptCommand}
use Rattle.transfer_world.specs.declared.script.commands.ScriptCommand.TheVariants.{Sites, Act, Report}

-- ---- words

abbrev pub first_some : {X : Type 0} → Option X → Option X → Option X
first_some None other = other
first_some (Some x) other = Some x

unfoldable pub site_word : List ℕ → Option SiteWord
site_word text =
    named (
    (codes "issue", SaysIssue)
    ∷ (codes "give", SaysGive)
    ∷ (codes "spend", SaysSpend)
    ∷ (codes "serve", SaysServe)
    ∷ (codes "expire", SaysExpire)
    ∷ (codes "status", SaysStatus)
    ∷ (codes "plan", SaysPlan)
    ∷ (codes "arrive", SaysArrive)
    ∷ (codes "close", SaysClose) ∷ []
    ) text

unfoldable pub link_word : List ℕ → Option LinkWord
link_word text =
    named (
    (codes "ask", SaysAsk)
    ∷ (codes "publish", SaysPublish)
    ∷ (codes "beat", SaysBeat)
    ∷ (codes "query", SaysQuery)
    ∷ (codes "requery", SaysRequery)
    ∷ (codes "take", SaysTake) ∷ []
    ) text

unfoldable pub plain_word : List ℕ → Option Word
plain_word text =
    named (
    (codes "sites", SaysSites)
    ∷ (codes "post", SaysPost)
    ∷ (codes "noise", SaysNoise)
    ∷ (codes "report", SaysReport) ∷ []
    ) text

unfoldable pub word_of : List ℕ → Option Word
word_of text =
    first_some (option_map (λ word. AtSite word) (site_word text))
    (first_some (option_map (λ word. OnLink word) (link_word text)) (plain_word text))

-- the meaning of the first word, and the words after it
abbrev pub word_in : List (List ℕ) → Option (Word × List (List ℕ))
word_in [] = None
word_in (first ∷ words) = do
  word ← word_of first
  Some (word, words)

-- every line that begins with this text has this word, and its values come after that
abbrev pub Spells : List ℕ → Word → Type 0
Spells begins word = (rest : List ℕ) → word_in (words_of (begins ++ rest)) ≡ Some (word, words_of rest)

-- a line has a word, and this text has its values
abbrev pub IsWordIn : List ℕ → (Word × Bor (List ℕ)) → Type 0
IsWordIn line found = word_in (words_of line) ≡ Some (found.0, words_of found.1.now)

-- ---- values

unfoldable pub two_sites : List (List ℕ) → Option (ℕ × ℕ)
two_sites words = do
  s ← first_site words
  o ← only_site s.1
  Some (s.0, o)

-- an event at one site; for a close, the heir may be missing
unfoldable pub site_event : {A : Type 0} → SiteWord → List (List ℕ) → Option (Event A)
site_event SaysIssue words = do
  v ← site_and_number words
  Some (Issue v.0 v.1)
site_event SaysGive words = do
  s ← first_site words
  v ← site_and_number s.1
  Some (Give s.0 v.0 v.1)
site_event SaysSpend words = do
  s ← first_site words
  n ← first_number s.1
  deadline ← only_number n.1
  Some (Spend s.0 n.0 deadline)
site_event SaysServe words = do
  s ← only_site words
  Some (Serve s)
site_event SaysExpire words = do
  v ← site_and_number words
  Some (Expire v.0 v.1)
site_event SaysStatus words = do
  v ← site_and_number words
  Some (Status v.0 v.1)
site_event SaysPlan words = do
  s ← only_site words
  Some (Plan s)
site_event SaysArrive words = do
  v ← site_and_number words
  Some (Arrive v.0 v.1)
site_event SaysClose words = do
  s ← first_site words
  heir ← optional_site s.1
  Some (Close s.0 heir)

-- an event between two sites
abbrev pub link_event : {A : Type 0} → LinkWord → ℕ → ℕ → Event A
link_event SaysAsk s o = Ask s o
link_event SaysPublish s o = Publish s o
link_event SaysBeat s o = Beat s o
link_event SaysQuery s o = Query s o false
link_event SaysRequery s o = Query s o true
link_event SaysTake s o = Take s o

unfoldable pub event_on_link : {A : Type 0} → LinkWord → List (List ℕ) → Option (Event A)
event_on_link word words = do
  v ← two_sites words
  Some (link_event word v.0 v.1)

-- the moves that words spell, one each
abbrev pub moves_in : List (List ℕ) → Option (List Move)
moves_in [] = Some []
moves_in (word ∷ words) = do
  m ← move_of word
  ms ← moves_in words
  Some (m ∷ ms)

unfoldable pub post_of : {A : Type 0} → List (List ℕ) → Option (Event A)
post_of words = do
  s ← first_site words
  moves ← moves_in s.1
  Some (Post s.0 moves)

-- the text of at least one word
abbrev pub text_of : List (List ℕ) → Option (List ℕ)
text_of [] = None
text_of (word ∷ words) = Some (join_with_byte 32 (word ∷ words))

-- two sites, and the text after them
unfoldable pub noise_parts : List (List ℕ) → Option (ℕ × ℕ × List ℕ)
noise_parts words = do
  s ← first_site words
  o ← first_site s.1
  text ← text_of o.1
  Some (s.0, o.0, text)

-- the text gets its line feed
unfoldable pub noise_of : {A : Type 0} → List (List ℕ) → Option (Event A)
noise_of words = do
  v ← noise_parts words
  Some (Noise v.0 v.1 (v.2 ++ 10 ∷ []))

-- ---- commands

abbrev pub act : {A : Type 0} → Option (Event A) → Option (ScriptCommand A)
act event = event >>= (λ e. Some (Act e))

unfoldable pub sites_of : {A : Type 0} → List (List ℕ) → Option (ScriptCommand A)
sites_of words = do
  n ← only_in MIN_SITES MAX_SITES words
  Some (Sites n)

-- the command with this first word and these values
abbrev pub command_by : {A : Type 0} → Word → List (List ℕ) → Option (ScriptCommand A)
command_by SaysSites words = sites_of words
command_by SaysPost words = act (post_of words)
command_by (AtSite word) words = act (site_event word words)
command_by (OnLink word) words = act (event_on_link word words)
command_by SaysNoise words = act (noise_of words)
command_by SaysReport words = alone Report words

-- only the moves of a post and the bytes of noise take memory
abbrev pub takes_memory : Word → Bool
takes_memory SaysPost = true
takes_memory SaysNoise = true
takes_memory word = false

-- .. of these words
abbrev pub TakeMemory : List (List ℕ) → Type 0
TakeMemory words = (v : Word × List (List ℕ)) × (word_in words ≡ Some v) × (takes_memory v.0 ≡ true)

-- the command of these words
abbrev pub command_with : {A : Type 0} → List (List ℕ) → Option (ScriptCommand A)
command_with [] = None
command_with (first ∷ words) = word_of first >>= (λ word. command_by word words)

-- the command of a line without its line feed
unfoldable pub command_in : {A : Type 0} → List ℕ → Option (ScriptCommand A)
command_in text = command_with (words_of text)

-- the command of a line with its line feed, or none; no command is longer than `MAX_LINE`
unfoldable pub command_of : {A : Type 0} → List ℕ → Option (ScriptCommand A)
command_of line = if nat_le (length line) MAX_LINE then command_in (take (length line - 1) line) else None
