-- What a tick sends to a peer: the entries that were not published to it, an ask, and a beat.
use Rattle.std.specs.Prelude.{◌≡◌, ◌≢◌, ℕ, ◌+◌, suc, zero, ◌⊎◌, Bool, true, false, List, Option, Some, None}
use Rattle.std.specs.Option.{option_map}
use Rattle.rights_types.specs.Messages.{MessageValue}
use Rattle.rights_types.specs.Messages.MessageValue.{AnAsk}
use Rattle.entry_codec.specs.Spelling.{Spells}
use Rattle.transfer_manager.specs.Managers.{outstanding_ask}
use Rattle.site_core.specs.Desks.{DeskValue}
use Rattle.site_core.specs.Calls.{next_push, after_publish, after_skip, beat_of}
use Rattle.apply_lanes.specs.Kepts.{KeptValue}

-- the outstanding ask to that peer, as a message
abbrev pub due_ask : DeskValue → ℕ → Option MessageValue
due_ask d peer = option_map (λ ask. AnAsk ask) (outstanding_ask d.manager peer)

-- the next entry that was not published to the peer, as a message
abbrev pub next_entry : KeptValue → ℕ → Option MessageValue
next_entry k peer = next_push k.desk.ledger.log peer

-- one if the line found space, else none
abbrev pub count_of : Bool → ℕ
count_of true = 1
count_of false = 0

-- For a sink with this relation: `takes before line fits after` says that it was offered this line, which found space
-- if `fits`, and changed from `before` to `after`.
module _ {S : Type 0} (takes : S → List ℕ → Bool → S → Type 0) where
  -- this line was offered; sent is 1 if it found space, else 0
  pub record OffersLine (line : List ℕ) (before : S) (sent : ℕ) (after : S) : Type 0 where
    pub room : Bool
    pub taken : takes before line room after
    pub counted : sent ≡ count_of room

  -- the line of this message was offered
  pub record Offers (message : MessageValue) (before : S) (sent : ℕ) (after : S) : Type 0 where
    pub line : List ℕ
    pub spells : Spells message line
    pub offered : OffersLine line before sent after

  -- .. if there is a message
  abbrev pub OffersIf : Option MessageValue → S → ℕ → S → Type 0
  OffersIf None before sent after = (sent ≡ 0) × (after ≡ before)
  OffersIf (Some message) before sent after = Offers message before sent after

  -- ---- entries

  -- the next entry for the peer was published, and its line offered
  pub record OffersNext (old : KeptValue) (peer : ℕ) (before : S) (sent : ℕ) (new : KeptValue)
      (after : S) : Type 0 where
    pub message : MessageValue
    pub next : next_entry old peer ≡ Some message
    pub offers : Offers message before sent after
    pub desk : new ≡ record old { desk = after_publish old.desk peer }

  -- this many entries were, one after another, and the line of each found space
  abbrev pub SendsMany : KeptValue → ℕ → S → ℕ → KeptValue → S → Type 0
  SendsMany old peer before zero new after = (new ≡ old) × (after ≡ before)
  SendsMany old peer before (suc n) new after =
      (mid : KeptValue) × (between : S) × SendsMany old peer before n mid between
      × OffersNext mid peer between 1 new after

  -- none is left
  pub record NoneLeft (old : KeptValue) (peer : ℕ) (before : S) (new : KeptValue) (after : S) : Type 0 where
    pub none : next_entry old peer ≡ None
    pub same_desk : new ≡ old
    pub same_sink : after ≡ before

  -- the line of the next one found no space, and all that are left count as published, with no line offered
  pub record SkipsRest (old : KeptValue) (peer : ℕ) (before : S) (new : KeptValue) (after : S) : Type 0 where
    pub lost : KeptValue
    pub next : OffersNext old peer before 0 lost after
    pub skipped : new ≡ record lost { desk = after_skip lost.desk peer }

  -- the lines of this many entries found space; then no entry was left, or the line of the next one found no space
  pub record OffersEntries (old : KeptValue) (peer : ℕ) (before : S) (sent : ℕ) (new : KeptValue)
      (after : S) : Type 0 where
    pub mid : KeptValue
    pub between : S
    pub many : SendsMany old peer before sent mid between
    pub rest : NoneLeft mid peer between new after ⊎ SkipsRest mid peer between new after

  -- ---- all that is due

  -- the entries were offered first, then the ask, and then the beat; this many lines found space
  pub record OffersDue (old : KeptValue) (peer : ℕ) (before : S) (sent : ℕ) (new : KeptValue) (after : S) : Type 0 where
    pub sent_entries : ℕ
    pub with_entries : S
    pub sent_ask : ℕ
    pub with_ask : S
    pub sent_beat : ℕ
    pub entries : OffersEntries old peer before sent_entries new with_entries
    pub ask : OffersIf (due_ask new.desk peer) with_entries sent_ask with_ask
    pub beat : Offers (beat_of new.desk.ledger.log) with_ask sent_beat after
    pub all_sent : sent ≡ sent_entries + sent_ask + sent_beat

  -- ---- what was offered before memory was wanted that there was not: a front of what is due

  -- some of the entries were offered; the next one is not published
  pub record StopsAtEntry (old : KeptValue) (peer : ℕ) (before : S) (new : KeptValue) (after : S) : Type 0 where
    pub sent : ℕ
    pub many : SendsMany old peer before sent new after
    pub left : next_entry new peer ≢ None

  -- the entries were offered, and not the ask
  pub record StopsAtAsk (old : KeptValue) (peer : ℕ) (before : S) (new : KeptValue) (after : S) : Type 0 where
    pub sent : ℕ
    pub entries : OffersEntries old peer before sent new after
    pub ask : due_ask new.desk peer ≢ None

  -- the entries and the ask were offered, and not the beat
  pub record StopsAtBeat (old : KeptValue) (peer : ℕ) (before : S) (new : KeptValue) (after : S) : Type 0 where
    pub sent_entries : ℕ
    pub with_entries : S
    pub sent_ask : ℕ
    pub entries : OffersEntries old peer before sent_entries new with_entries
    pub ask : OffersIf (due_ask new.desk peer) with_entries sent_ask after

  abbrev pub StopsShort : KeptValue → ℕ → S → KeptValue → S → Type 0
  StopsShort old peer before new after =
      StopsAtEntry old peer before new after
      ⊎ (StopsAtAsk old peer before new after ⊎ StopsAtBeat old peer before new after)
